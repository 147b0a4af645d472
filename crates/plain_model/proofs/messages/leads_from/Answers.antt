use Rattle.std.proofs.Common.{arith}
use Rattle.std.proofs.lemmas.Grind.{common_steps}
use Rattle.plain_model.proofs.Marked.{leads_from-drop}
use Rattle.plain_model.proofs.messages.leads_from.Goals as goal
use Rattle.plain_model.proofs.messages.leads_from.Goals.{else-mark-via-then-mark+else-leads, else-mark-via-else-mark}

pub loop-place-preserved : goal.loop-place-preserved
loop-place-preserved c =
    let next = leads_from-drop c.args.h.now c.args.marks.now c.args.h.now c.args.entry.now c.loop-place.place (omega arith) (omega arith) in
    elim c.else-mark.branch [
      | else-mark-via-then-mark+else-leads w ↦ grind (arith, common_steps, next)
      | else-mark-via-else-mark w ↦ grind (arith, common_steps, next)
    ]
