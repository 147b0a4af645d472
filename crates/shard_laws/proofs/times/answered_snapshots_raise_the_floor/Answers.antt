use Rattle.shard_laws.proofs.Laters.{answered_floor}
use Rattle.shard_laws.proofs.times.answered_snapshots_raise_the_floor.Goals as goal

pub returns : goal.returns
returns c = answered_floor
