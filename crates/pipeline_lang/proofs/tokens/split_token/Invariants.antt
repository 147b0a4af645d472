use Rattle.std.proofs.Common.{◌≡◌, length}
use Rattle.pipeline_lang.specs.Tokens.{tokens}
use Rattle.pipeline_lang.proofs.tokens.split_token.Given as goal

abbrev pub invariant-loop-first : goal.invariant-loop-first
invariant-loop-first l = tokens l.rest ≡ tokens l.line

abbrev pub decreases-loop-first : goal.decreases-loop-first
decreases-loop-first l = length l.rest
