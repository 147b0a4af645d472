use Rattle.txn_shard_laws.proofs.OrderKeeps.{orderly_keeps}
use Rattle.txn_shard_laws.proofs.OrderStarts.{orderly_start, orderly_ticks}
use Rattle.txn_shard_laws.proofs.order.shards_are_kept_orderly.Goals as goal

pub returns-clause-kept : goal.returns-clause-kept
returns-clause-kept c = orderly_keeps

pub returns-clause-first : goal.returns-clause-first
returns-clause-first c = orderly_start

pub returns-clause-ticked : goal.returns-clause-ticked
returns-clause-ticked c = orderly_ticks
