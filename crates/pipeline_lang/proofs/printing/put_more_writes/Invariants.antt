use Rattle.std.proofs.Common.{◌≡◌, ◌++◌, drop}
use Rattle.pipeline_lang.specs.Printing.{more_writes_text}
use Rattle.pipeline_lang.proofs.printing.put_more_writes.Given as goal

abbrev pub invariant-loop-written : goal.invariant-loop-written
invariant-loop-written l = l.text.items ++ more_writes_text (drop l.written-index l.writes) ≡ l.fn.text.items ++ more_writes_text l.fn.writes
