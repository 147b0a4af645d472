use Rattle.txn_shard_laws.proofs.FreshKeeps.{fresh_keeps, fresh_start, fresh_ticks}
use Rattle.txn_shard_laws.proofs.fresh.snapshots_are_fresh.Goals as goal

pub returns-clause-kept : goal.returns-clause-kept
returns-clause-kept c = fresh_keeps

pub returns-clause-first : goal.returns-clause-first
returns-clause-first c = fresh_start

pub returns-clause-ticked : goal.returns-clause-ticked
returns-clause-ticked c = fresh_ticks
