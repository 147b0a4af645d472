use Rattle.shard_laws.proofs.Commits.{commit_writes, commit_leaves}
use Rattle.shard_laws.proofs.fitting.commits_write_what_was_prepared.Goals as goal

pub returns-clause-writes : goal.returns-clause-writes
returns-clause-writes c = commit_writes

pub returns-clause-leaves : goal.returns-clause-leaves
returns-clause-leaves c = commit_leaves
