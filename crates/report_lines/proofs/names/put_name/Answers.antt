-- Past the end of the table the name is empty, and nothing is appended.
use Rattle.std.proofs.Common.{◌++◌, append-nil, sym, ◌∙◌, ap, List, ℕ}
use Rattle.report_lines.proofs.Tables.{no_name}
use Rattle.report_lines.proofs.names.put_name.Goals as goal

pub returns-in-None : goal.returns-in-None
returns-in-None c =
    sym (ap (λ (name : List ℕ). c.args.out.now.items ++ name) (no_name c.args.table.now c.args.position (sym c.in-None.ensures.named)) ∙ append-nil c.args.out.now.items)
