use Rattle.coupling_laws.proofs.Ends.{cleared}
use Rattle.coupling_laws.proofs.laws.cleared_context_covers.Goals as goal

pub returns : goal.returns
returns c = cleared
