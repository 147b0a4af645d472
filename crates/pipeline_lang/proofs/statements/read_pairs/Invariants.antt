use Rattle.std.proofs.Common.{length}
use Rattle.pipeline_lang.specs.Statements.{pair_at}
use Rattle.pipeline_lang.proofs.Parts.{Members}
use Rattle.pipeline_lang.proofs.statements.read_pairs.Given as goal

abbrev pub invariant-loop-stop : goal.invariant-loop-stop
invariant-loop-stop l = Members pair_at l.fn.line l.pairs.items l.line

abbrev pub decreases-loop-stop : goal.decreases-loop-stop
decreases-loop-stop l = length l.line
