use Rattle.std.proofs.Common.{◌≡◌, drop}
use Rattle.plain_model.specs.Causes.{with_writers}
use Rattle.plain_model.proofs.causality.add_writers.Given as goal

-- what is left of the list answers for the whole
abbrev pub invariant-loop-shown : goal.invariant-loop-shown
invariant-loop-shown l = with_writers l.calls.items (drop l.shown-index l.reply) ≡ with_writers l.fn.calls.items l.reply
