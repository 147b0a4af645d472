use Rattle.std.proofs.Common.{◌≡◌, ◌++◌, drop}
use Rattle.history_text.specs.Spelling.{entries_text}
use Rattle.history_text.proofs.print.put_entries.Given as goal

abbrev pub invariant-loop-entry : goal.invariant-loop-entry
invariant-loop-entry l = l.text.items ++ entries_text l.config (drop l.entry-index l.entries) ≡ l.fn.text.items ++ entries_text l.config l.fn.entries
