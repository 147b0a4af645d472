use Rattle.shard_laws.proofs.Laters.{prepared_once}
use Rattle.shard_laws.proofs.prepared.prepared_attempts_have_one_entry.Goals as goal

pub returns : goal.returns
returns c = prepared_once
