use Rattle.txn_shard_laws.proofs.Closed.{closing_keeps}
use Rattle.txn_shard_laws.proofs.ClosedStarts.{closing_start, closing_ticks}
use Rattle.txn_shard_laws.proofs.closes.what_is_closed_is_kept.Goals as goal

pub returns-clause-at_first : goal.returns-clause-at_first
returns-clause-at_first c = closing_start

pub returns-clause-ticks : goal.returns-clause-ticks
returns-clause-ticks c = closing_ticks

pub returns-clause-events : goal.returns-clause-events
returns-clause-events c = closing_keeps
