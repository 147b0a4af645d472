use Rattle.shard_laws.proofs.Laters.{granted_by_request}
use Rattle.shard_laws.proofs.locks.locks_are_granted_where_asked_for.Goals as goal

pub returns : goal.returns
returns c = granted_by_request
