use Rattle.shard_laws.proofs.Prepares.{entry_stays}
use Rattle.shard_laws.proofs.shown.prepared_attempts_stay_until_settled.Goals as goal

pub returns : goal.returns
returns c = entry_stays
