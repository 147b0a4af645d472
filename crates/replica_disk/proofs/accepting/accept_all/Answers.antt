use Rattle.std.proofs.Common.{ap, sym, ◌∙◌, arith}
use Rattle.std.proofs.lemmas.List.{get_or_default}
use Rattle.std.proofs.lemmas.Result.{err_from_is_err_and}
use Rattle.replica_disk.specs.Registers.{gates_of}
use Rattle.replica_disk.proofs.Settled.{opens_more, turn, turn_within}
use Rattle.replica_disk.proofs.accepting.accept_all.Goals as goal

pub returns-in_err-accept-clause-stopped : goal.returns-in_err-accept-clause-stopped
returns-in_err-accept-clause-stopped g c =
    let inv = c.loop-dep.invariant in
    let p = err_from_is_err_and c.from_residual.result c.from_residual.ensures.1 in
    rw p.1 (opens_more _ _ c.args.held.now c.loop-dep.held c.args.deps.now c.loop-dep.dep-index _ inv.accepted inv.same_length
    c.loop-dep-test.true (get_or_default _ _ _ _ c.loop-dep-test.true) c.in_err-accept.ensures.stopped)

pub returns-in_err-accept-clause-made_at_most : goal.returns-in_err-accept-clause-made_at_most
returns-in_err-accept-clause-made_at_most g c =
    let inv = c.loop-dep.invariant in
    turn_within c.args.held.now c.loop-dep.held _ _ c.args.deps.now c.loop-dep.dep-index _ _ _ _ c.accept.ensures.made_at_most inv.accepted
    (ap (λ n. gates_of (g.D.Disk.bytes c.loop-dep.disk) n) inv.same_length ∙ inv.times) inv.made
    c.loop-dep-test.true (get_or_default _ _ _ _ c.loop-dep-test.true)

pub loop-dep-preserved : goal.loop-dep-preserved
loop-dep-preserved g c =
    let inv = c.loop-dep.invariant in
    let done = c.in_ok-accept.ensures in
    let next = turn c.args.held.now c.loop-dep.held _ _ _ _ c.args.deps.now c.loop-dep.dep-index _ _ _ _ done.times done.accepted done.made inv.accepted
    (ap (λ n. gates_of (g.D.Disk.bytes c.loop-dep.disk) n) inv.same_length ∙ inv.times) inv.made
    c.loop-dep-test.true (get_or_default _ _ _ _ c.loop-dep-test.true) in
    record {
      same_length = omega (arith, c.accept.auto.held, inv.same_length);
      accepted = next.0;
      settled = done.settled;
      times = ap (λ n. gates_of (g.D.Disk.bytes c.accept.new.disk) n) (sym inv.same_length) ∙ next.1;
      made = next.2;
      size = c.accept.ensures.size ∙ inv.size;
      identity = c.accept.ensures.identity ∙ inv.identity;
      faultless = done.faultless ∙ inv.faultless;
    }
