use Rattle.std.proofs.Common.{arith}
use Rattle.session_stub.proofs.Picks.{pick_more}
use Rattle.session_stub.proofs.plan.add_fences.Goals as goal

pub loop-place-preserved : goal.loop-place-preserved
loop-place-preserved c = record {
  added = pick_more c.args.context.now.seen c.args.except c.loop-place.place c.loop-place.fences.items _ _ (omega (arith, c.loop-place-test.true)) c.in_ok-add_fence.ensures.added c.loop-place.invariant.added;
  longer = omega (arith, c.in_ok-add_fence.ensures.longer, c.loop-place.invariant.longer);
  capacity = omega (arith, c.add_fence.ensures.capacity, c.loop-place.invariant.capacity);
  services = c.loop-place.invariant.services;
}
