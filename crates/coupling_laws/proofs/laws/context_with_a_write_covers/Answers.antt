use Rattle.coupling_laws.proofs.Ends.{write_ends}
use Rattle.coupling_laws.proofs.laws.context_with_a_write_covers.Goals as goal

pub returns : goal.returns
returns c = write_ends
