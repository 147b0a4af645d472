use Rattle.world_laws.proofs.Later.{later_run}
use Rattle.world_laws.proofs.laws.nothing_changes_back.Goals as goal

pub returns : goal.returns
returns c = later_run
