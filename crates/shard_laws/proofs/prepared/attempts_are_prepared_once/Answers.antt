use Rattle.shard_laws.proofs.Laters.{prepared_later}
use Rattle.shard_laws.proofs.prepared.attempts_are_prepared_once.Goals as goal

pub returns : goal.returns
returns c = prepared_later
