use Rattle.std.proofs.Common.{length}
use Rattle.history_text.specs.Operations.{write_at}
use Rattle.history_text.proofs.Parts.{Members}
use Rattle.history_text.proofs.operations.read_writes.Given as goal

abbrev pub invariant-loop-stop : goal.invariant-loop-stop
invariant-loop-stop l = Members (write_at l.config) l.fn.line l.writes.items l.line

abbrev pub decreases-loop-stop : goal.decreases-loop-stop
decreases-loop-stop l = length l.line
