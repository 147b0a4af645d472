use Rattle.std.proofs.Common.{◌≡◌, drop}
use Rattle.rss_model.specs.History.{has_ended}
use Rattle.plain_model.proofs.calls.has_ended.Given as goal

-- what is left of the list answers for the whole
abbrev pub invariant-loop-entry : goal.invariant-loop-entry
invariant-loop-entry l = has_ended (drop l.entry-index l.h) l.call ≡ has_ended l.h l.call
