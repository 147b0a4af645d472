use Rattle.std.proofs.Common.{◌≡◌, ◌-◌, length, slice_get}
use Rattle.std.specs.List.{filter}
use Rattle.pipeline_lang.specs.Tokens.{statement_lines, is_statement, lines_left}
use Rattle.pipeline_lang.proofs.lines.token_column.Given as goal

abbrev pub invariant-loop-rest : goal.invariant-loop-rest
invariant-loop-rest l = slice_get (statement_lines l.text) (l.statement - 1) ≡ slice_get (filter is_statement (lines_left l.rest)) l.before

abbrev pub decreases-loop-rest : goal.decreases-loop-rest
decreases-loop-rest l = length (lines_left l.rest)
