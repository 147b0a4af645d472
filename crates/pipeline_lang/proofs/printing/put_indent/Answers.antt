use Rattle.std.proofs.Common.{◌-◌, ◌++◌, ap, sym, ◌∙◌, append_assoc, arith}
use Rattle.std.specs.Prelude.{codes}
use Rattle.pipeline_lang.specs.Printing.{indent}
use Rattle.pipeline_lang.proofs.Printed.{indent_step}
use Rattle.pipeline_lang.proofs.printing.put_indent.Goals as goal

pub loop-left-preserved : goal.loop-left-preserved
loop-left-preserved c =
    ap (λ l. l ++ indent (c.loop-left.left - 1)) c.in_ok-extend_from_slice.ensures.items
    ∙ append_assoc c.loop-left.text.items (codes "  ") (indent (c.loop-left.left - 1))
    ∙ ap (λ l. c.loop-left.text.items ++ l) (sym (indent_step c.loop-left.left (c.loop-left.left - 1) (omega arith)))
    ∙ c.loop-left.invariant
