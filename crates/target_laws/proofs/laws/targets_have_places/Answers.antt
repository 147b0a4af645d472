-- So each has a place.
use Rattle.target_laws.proofs.Runs.{targets_placed}
use Rattle.target_laws.proofs.laws.targets_have_places.Goals as goal

pub returns : goal.returns
returns g = targets_placed
