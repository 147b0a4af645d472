use Rattle.shard_laws.proofs.Laters.{prepared_hold_for}
use Rattle.shard_laws.proofs.prepared.prepared_attempts_hold.Goals as goal

pub returns : goal.returns
returns c = prepared_hold_for
