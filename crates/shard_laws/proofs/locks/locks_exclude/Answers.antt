use Rattle.shard_laws.proofs.Laters.{exclude}
use Rattle.shard_laws.proofs.locks.locks_exclude.Goals as goal

pub returns : goal.returns
returns c = exclude
