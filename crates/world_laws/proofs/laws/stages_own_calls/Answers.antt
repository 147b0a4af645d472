use Rattle.world_laws.proofs.ToldLaws.{stages_own_run}
use Rattle.world_laws.proofs.laws.stages_own_calls.Goals as goal

pub returns : goal.returns
returns c = stages_own_run
