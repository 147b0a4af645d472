use Rattle.shard_laws.proofs.Laters.{tombstoned_gone, gone_later}
use Rattle.shard_laws.proofs.Samples.{both_at_once}
use Rattle.shard_laws.proofs.locks.tombstoned_attempts_without_locks_are_gone.Goals as goal

pub returns-clause-now : goal.returns-clause-now
returns-clause-now c = tombstoned_gone

pub returns-clause-ever_after : goal.returns-clause-ever_after
returns-clause-ever_after c = gone_later

pub returns-clause-tombstones_alone_are_less : goal.returns-clause-tombstones_alone_are_less
returns-clause-tombstones_alone_are_less c = both_at_once
