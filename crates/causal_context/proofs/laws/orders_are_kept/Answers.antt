use Rattle.causal_context.proofs.SeenJoins.{joined_is_seen, nothing_is_seen}
use Rattle.causal_context.proofs.SeenKept.{txn_seen, read_seen, write_seen, fence_seen, outside_seen, entered_seen, cleared_seen}
use Rattle.causal_context.proofs.laws.orders_are_kept.Goals as goal

pub returns : goal.returns
returns c = record { nothing = nothing_is_seen; join = joined_is_seen; txn = txn_seen; read = read_seen; write = write_seen; fence = fence_seen; outside = outside_seen; entry = entered_seen; cleared = cleared_seen }
