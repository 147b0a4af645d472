use Rattle.std.proofs.Common.{◌≡◌, drop}
use Rattle.std.proofs.Common.{[]}
use Rattle.plain_model.specs.Causes.{with_all_named}
use Rattle.plain_model.proofs.causality.named_calls.Given as goal

-- what is left of the list answers for the whole
abbrev pub invariant-loop-entry : goal.invariant-loop-entry
invariant-loop-entry l = with_all_named l.calls.items (drop l.entry-index l.h) ≡ with_all_named [] l.h
