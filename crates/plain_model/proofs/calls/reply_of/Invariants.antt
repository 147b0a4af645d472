use Rattle.std.proofs.Common.{◌≡◌, drop}
use Rattle.plain_model.specs.Found.{found_reply}
use Rattle.plain_model.proofs.calls.reply_of.Given as goal

-- the call is not among the entries that were passed
abbrev pub invariant-loop-entry : goal.invariant-loop-entry
invariant-loop-entry l = found_reply (drop l.entry-index l.h) l.call ≡ found_reply l.h l.call
