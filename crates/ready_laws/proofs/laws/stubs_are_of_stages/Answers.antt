-- Stubs are of their stages.
use Rattle.ready_laws.proofs.Stubs.{stubs_run}
use Rattle.ready_laws.proofs.laws.stubs_are_of_stages.Goals as goal

pub returns : goal.returns
returns g = stubs_run
