use Rattle.shard_laws.proofs.Laters.{held_once}
use Rattle.shard_laws.proofs.locks.each_attempt_holds_once.Goals as goal

pub returns : goal.returns
returns c = held_once
