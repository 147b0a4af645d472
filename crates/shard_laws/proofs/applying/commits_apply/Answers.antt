use Rattle.shard_laws.proofs.Applies.{commit_applies, applied_stay}
use Rattle.shard_laws.proofs.applying.commits_apply.Goals as goal

pub returns-clause-applies : goal.returns-clause-applies
returns-clause-applies c = commit_applies

pub returns-clause-stays : goal.returns-clause-stays
returns-clause-stays c = applied_stay
