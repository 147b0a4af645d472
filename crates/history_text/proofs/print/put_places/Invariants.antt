use Rattle.std.proofs.Common.{◌≡◌, ◌++◌, drop}
use Rattle.history_text.specs.Spelling.{places_text}
use Rattle.history_text.proofs.print.put_places.Given as goal

abbrev pub invariant-loop-call : goal.invariant-loop-call
invariant-loop-call l = l.text.items ++ places_text (drop l.call-index l.calls) ≡ l.fn.text.items ++ places_text l.fn.calls
