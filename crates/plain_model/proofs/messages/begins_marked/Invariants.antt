use Rattle.std.proofs.Common.{◌≡◌, drop}
use Rattle.plain_model.specs.Messages.{begins_marked}
use Rattle.plain_model.proofs.messages.begins_marked.Given as goal

-- what is left of the list answers for the whole
abbrev pub invariant-loop-place : goal.invariant-loop-place
invariant-loop-place l = begins_marked (drop l.place l.marks) (drop l.place l.h) l.call ≡ begins_marked l.marks l.h l.call
