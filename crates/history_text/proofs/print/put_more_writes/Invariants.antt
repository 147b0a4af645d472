use Rattle.std.proofs.Common.{◌≡◌, ◌++◌, drop}
use Rattle.history_text.specs.Spelling.{more_text}
use Rattle.history_text.specs.Spelling.{write_text}
use Rattle.history_text.proofs.print.put_more_writes.Given as goal

abbrev pub invariant-loop-write : goal.invariant-loop-write
invariant-loop-write l = l.text.items ++ more_text (write_text l.config) (drop l.write-index l.writes) ≡ l.fn.text.items ++ more_text (write_text l.config) l.fn.writes
