use Rattle.shard_laws.proofs.Order.{closed_upto, closed_writers, closed_before}
use Rattle.shard_laws.proofs.closing.closed_times_are_in_order.Goals as goal

pub returns-clause-upto : goal.returns-clause-upto
returns-clause-upto c = closed_upto

pub returns-clause-writers : goal.returns-clause-writers
returns-clause-writers c = closed_writers

pub returns-clause-order : goal.returns-clause-order
returns-clause-order c = closed_before
