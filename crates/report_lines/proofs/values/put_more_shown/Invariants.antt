use Rattle.std.proofs.Common.{◌≡◌, ◌++◌, drop}
use Rattle.report_lines.specs.Pieces.{more_reads}
use Rattle.report_lines.proofs.values.put_more_shown.Given as goal

abbrev pub invariant-loop-shown : goal.invariant-loop-shown
invariant-loop-shown l =
    l.fn.out.items ++ more_reads l.config l.rest
    ≡ l.out.items ++ more_reads l.config (drop l.shown-index l.rest)
