use Rattle.shard_laws.proofs.Closes.{grow_later}
use Rattle.shard_laws.proofs.versions.versions_come_from_prepared_attempts.Goals as goal

pub returns : goal.returns
returns c = grow_later
