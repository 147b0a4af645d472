use Rattle.txn_shard_laws.proofs.VoteKeeps.{voted_keeps, voted_start, voted_ticks}
use Rattle.txn_shard_laws.proofs.votes.votes_are_kept.Goals as goal

pub returns-clause-at_first : goal.returns-clause-at_first
returns-clause-at_first c = voted_start

pub returns-clause-counted : goal.returns-clause-counted
returns-clause-counted c = voted_ticks

pub returns-clause-kept : goal.returns-clause-kept
returns-clause-kept c = voted_keeps
