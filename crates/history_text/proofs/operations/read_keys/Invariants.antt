use Rattle.std.proofs.Common.{length}
use Rattle.history_text.specs.Operations.{key_at}
use Rattle.history_text.proofs.Parts.{Members}
use Rattle.history_text.proofs.operations.read_keys.Given as goal

abbrev pub invariant-loop-stop : goal.invariant-loop-stop
invariant-loop-stop l = Members (key_at l.config) l.fn.line l.keys.items l.line

abbrev pub decreases-loop-stop : goal.decreases-loop-stop
decreases-loop-stop l = length l.line
