use Rattle.world_laws.proofs.ToldLaws.{history_run}
use Rattle.world_laws.proofs.laws.history_tells_calls.Goals as goal

pub returns : goal.returns
returns c = history_run
