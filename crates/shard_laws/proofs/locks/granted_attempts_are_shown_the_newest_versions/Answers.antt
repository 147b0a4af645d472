use Rattle.shard_laws.proofs.Replies.{granted}
use Rattle.shard_laws.proofs.locks.granted_attempts_are_shown_the_newest_versions.Goals as goal

pub returns : goal.returns
returns c = granted
