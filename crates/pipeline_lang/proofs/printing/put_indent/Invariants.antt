use Rattle.std.proofs.Common.{◌≡◌, ◌++◌}
use Rattle.pipeline_lang.specs.Printing.{indent}
use Rattle.pipeline_lang.proofs.printing.put_indent.Given as goal

abbrev pub invariant-loop-left : goal.invariant-loop-left
invariant-loop-left l = l.text.items ++ indent l.left ≡ l.fn.text.items ++ indent l.blocks

abbrev pub decreases-loop-left : goal.decreases-loop-left
decreases-loop-left l = l.left
