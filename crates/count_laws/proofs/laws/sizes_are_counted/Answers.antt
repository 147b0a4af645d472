-- A state fits its number of steps.
use Rattle.count_laws.proofs.Runs.{sizes_run}
use Rattle.count_laws.proofs.laws.sizes_are_counted.Goals as goal

pub returns : goal.returns
returns g = sizes_run
