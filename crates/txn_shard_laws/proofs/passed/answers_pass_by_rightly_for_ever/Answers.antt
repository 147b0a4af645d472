use Rattle.txn_shard_laws.proofs.PassedKeeps.{passed_keeps, passed_start, passed_ticks}
use Rattle.txn_shard_laws.proofs.passed.answers_pass_by_rightly_for_ever.Goals as goal

pub returns-clause-at_first : goal.returns-clause-at_first
returns-clause-at_first c = passed_start

pub returns-clause-counted : goal.returns-clause-counted
returns-clause-counted c = passed_ticks

pub returns-clause-kept : goal.returns-clause-kept
returns-clause-kept c = passed_keeps
