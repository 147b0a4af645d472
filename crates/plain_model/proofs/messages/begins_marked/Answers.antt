use Rattle.std.proofs.Common.{arith}
use Rattle.std.proofs.lemmas.Grind.{common_steps}
use Rattle.plain_model.proofs.Marked.{begins_marked-drop}
use Rattle.plain_model.proofs.messages.begins_marked.Goals as goal
use Rattle.plain_model.proofs.messages.begins_marked.Goals.{else-mark-via-then-mark+else-begins, else-mark-via-else-mark}

pub loop-place-preserved : goal.loop-place-preserved
loop-place-preserved c =
    let next = begins_marked-drop c.args.marks.now c.args.h.now c.args.call c.loop-place.place (omega arith) (omega arith) in
    elim c.else-mark.branch [
      | else-mark-via-then-mark+else-begins w ↦ grind (arith, common_steps, next)
      | else-mark-via-else-mark w ↦ grind (arith, common_steps, next)
    ]
