use Rattle.std.proofs.Common.{arith}
use Rattle.causal_context.proofs.Timed.{raise_step, skip_step, raise_ends}
use Rattle.causal_context.proofs.least.join_least.Goals as goal
use Rattle.causal_context.proofs.least.join_least.Goals.{in-Some, in_default}

pub loop-place-preserved : goal.loop-place-preserved
loop-place-preserved c = elim c.match-others-place.branch [
  | in-Some w ↦ rw w.times-is (raise_step c.loop-place.times w.raise_least.new.times c.args.others.now c.loop-place.place w.in-Some.time _ (omega arith) w.in-Some.is w.raise_least.ensures.same c.loop-place.invariant.0, w.raise_least.ensures.long)
  | in_default w ↦ rw w.times-is (skip_step c.loop-place.times c.args.others.now c.loop-place.place _ (omega arith) w.in_default.is c.loop-place.invariant.0, c.loop-place.invariant.1)
]

pub returns-clause-same : goal.returns-clause-same
returns-clause-same c = raise_ends c.loop-place.times c.args.others.now c.loop-place.place _ (omega arith) c.loop-place.invariant.0
