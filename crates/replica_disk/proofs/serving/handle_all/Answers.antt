use Rattle.std.proofs.Common.{length, ap, ◌∙◌}
use Rattle.replica_disk.proofs.Fronts.{after_length}
use Rattle.replica_disk.proofs.Serves.{goes_more, next_at_least, next_gates, next_held, next_spent}
use Rattle.replica_disk.proofs.serving.handle_all.Goals as goal

pub loop-request-preserved : goal.loop-request-preserved
loop-request-preserved c =
    let inv = c.loop-request.invariant in
    let next = c.in_ok-replica.ensures in
    let lt = c.loop-request-test.true in
    let is = c.request-item.is in
    record {
      held = next.held ∙ next_held _ _ _ _ c.request-item.result inv.held lt is;
      settled = next.settled;
      registers = ap length next.held ∙ after_length _ _ ∙ inv.registers;
      goes_on = goes_more _ _ _ _ _ _ inv.goes_on next.goes_on
          (λ h. next_spent _ _ _ _ _ _ c.request-item.result inv.held (inv.times h) lt is) (next_at_least _ _ _ _ c.request-item.result lt);
      times = λ h. next.times h ∙ next_gates _ _ _ _ _ _ c.request-item.result inv.held (inv.times (next.goes_on.quiet h).0) lt is;
    }
