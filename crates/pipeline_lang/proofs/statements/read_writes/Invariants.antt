use Rattle.std.proofs.Common.{length}
use Rattle.pipeline_lang.specs.Statements.{written_at}
use Rattle.pipeline_lang.proofs.Parts.{Members}
use Rattle.pipeline_lang.proofs.statements.read_writes.Given as goal

abbrev pub invariant-loop-stop : goal.invariant-loop-stop
invariant-loop-stop l = Members written_at l.fn.line l.writes.items l.line

abbrev pub decreases-loop-stop : goal.decreases-loop-stop
decreases-loop-stop l = length l.line
