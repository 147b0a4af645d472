use Rattle.shard_laws.proofs.Answered.{blocked}
use Rattle.shard_laws.proofs.versions.blocked_snapshots_are_told_who_blocks.Goals as goal

pub returns : goal.returns
returns c = blocked
