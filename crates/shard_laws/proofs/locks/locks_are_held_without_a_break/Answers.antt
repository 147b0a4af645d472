use Rattle.shard_laws.proofs.Laters.{held_later}
use Rattle.shard_laws.proofs.locks.locks_are_held_without_a_break.Goals as goal

pub returns : goal.returns
returns c = held_later
