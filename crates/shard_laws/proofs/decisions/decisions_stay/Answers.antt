use Rattle.shard_laws.proofs.Laters.{decision_later}
use Rattle.shard_laws.proofs.decisions.decisions_stay.Goals as goal

pub returns : goal.returns
returns c = decision_later
