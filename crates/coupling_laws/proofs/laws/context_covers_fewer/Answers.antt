use Rattle.coupling_laws.proofs.Places.{fewer}
use Rattle.coupling_laws.proofs.laws.context_covers_fewer.Goals as goal

pub returns : goal.returns
returns c = fewer
