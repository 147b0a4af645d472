use Rattle.causal_context.proofs.Placed.{put_same}
use Rattle.causal_context.proofs.deps.place_for.Goals as goal

pub returns-then-dep-deps-2-clause-replaced : goal.returns-then-dep-deps-2-clause-replaced
returns-then-dep-deps-2-clause-replaced c = put_same c.args.deps.now c.args.dep.now c.args.dep.now _ c.loop-place.place c.loop-place-test.true c.loop-place.invariant c.if-dep-deps-2.true
