use Rattle.coupling_laws.proofs.Settles.{nothing_settles}
use Rattle.coupling_laws.proofs.works.no_dependency_settles.Goals as goal

pub returns : goal.returns
returns c = nothing_settles
