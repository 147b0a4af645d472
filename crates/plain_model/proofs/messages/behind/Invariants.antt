use Rattle.std.proofs.Common.{◌≡◌, drop}
use Rattle.std.specs.Prelude.{vec_len}
use Rattle.plain_model.specs.Messages.{behind_from, behind}
use Rattle.plain_model.proofs.messages.behind.Given as goal

-- what is left of the list answers for the whole
abbrev pub invariant-loop-entry : goal.invariant-loop-entry
invariant-loop-entry l = (behind_from l.h l.call l.marks.items (drop l.entry-index l.h) ≡ behind l.h l.call) × (vec_len l.marks ≡ l.entry-index)
