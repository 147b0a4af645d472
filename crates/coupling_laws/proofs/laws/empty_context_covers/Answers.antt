use Rattle.coupling_laws.proofs.Places.{begins}
use Rattle.coupling_laws.proofs.laws.empty_context_covers.Goals as goal

pub returns : goal.returns
returns c = begins
