use Rattle.txn_shard_laws.proofs.InOrder.{in_order}
use Rattle.txn_shard_laws.proofs.order.requests_keep_shards_orderly.Goals as goal

pub returns : goal.returns
returns c = in_order
