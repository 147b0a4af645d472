use Rattle.std.proofs.Common.{◌≡◌, drop}
use Rattle.plain_model.specs.Messages.{leads_from}
use Rattle.plain_model.proofs.messages.leads_from.Given as goal

-- what is left of the list answers for the whole
abbrev pub invariant-loop-place : goal.invariant-loop-place
invariant-loop-place l = leads_from l.h (drop l.place l.marks) (drop l.place l.h) l.entry ≡ leads_from l.h l.marks l.h l.entry
