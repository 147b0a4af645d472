use Rattle.shard_laws.proofs.Laters.{prepared_till_settled}
use Rattle.shard_laws.proofs.prepared.entries_stay_until_settled.Goals as goal

pub returns : goal.returns
returns c = prepared_till_settled
