use Rattle.world_laws.proofs.Scripts.{scripted_run}
use Rattle.world_laws.proofs.laws.calls_are_scripted.Goals as goal

pub returns : goal.returns
returns c = scripted_run
