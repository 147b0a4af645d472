use Rattle.world_laws.proofs.Scripts.{go_on_run}
use Rattle.world_laws.proofs.laws.owners_go_on.Goals as goal

pub returns : goal.returns
returns c = go_on_run
