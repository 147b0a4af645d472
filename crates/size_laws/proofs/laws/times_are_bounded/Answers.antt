-- Times are below the limit of readings and a step for each.
use Rattle.size_laws.proofs.Runs.{times_run}
use Rattle.size_laws.proofs.laws.times_are_bounded.Goals as goal

pub returns : goal.returns
returns g = times_run
