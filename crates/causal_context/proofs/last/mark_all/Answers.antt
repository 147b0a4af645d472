use Rattle.std.proofs.Common.{arith}
use Rattle.std.proofs.lemmas.Grind.{common_steps}
use Rattle.causal_context.proofs.Changed.{joins}
use Rattle.causal_context.proofs.last.mark_all.Goals as goal
use Rattle.causal_context.proofs.last.mark_all.Goals.{then-others-place, else-others-place}

pub loop-place-preserved : goal.loop-place-preserved
loop-place-preserved c = elim c.if-others-place.branch [ then-others-place w ↦ grind (arith, common_steps, joins, w.if-others-place, w.marks-is, c.loop-place.invariant) | else-others-place w ↦ grind (arith, common_steps, joins, w.if-others-place, w.marks-is, c.loop-place.invariant) ]

pub returns : goal.returns
returns c = grind (arith, common_steps, joins, c.loop-place.invariant)
