-- What a read left as a dependency comes before the later calls of its stage.
use Rattle.place_laws.proofs.Dependencies.{dependencies_run}
use Rattle.place_laws.proofs.laws.dependencies_come_first.Goals as goal

pub returns : goal.returns
returns g c steps s n q e = dependencies_run c n q steps s e
