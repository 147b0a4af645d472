use Rattle.std.proofs.Common.{◌≡◌, length, slice_get}
use Rattle.pipeline_lang.specs.Tokens.{tokens}
use Rattle.pipeline_lang.proofs.lines.column_of_token.Given as goal

abbrev pub invariant-loop-left : goal.invariant-loop-left
invariant-loop-left l = slice_get (tokens l.line) l.token ≡ slice_get l.rest l.before

abbrev pub decreases-loop-left : goal.decreases-loop-left
decreases-loop-left l = length l.rest
