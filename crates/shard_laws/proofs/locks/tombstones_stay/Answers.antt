use Rattle.shard_laws.proofs.Laters.{tombstoned_later}
use Rattle.shard_laws.proofs.locks.tombstones_stay.Goals as goal

pub returns : goal.returns
returns c = tombstoned_later
