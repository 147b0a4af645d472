use Rattle.shard_laws.proofs.Laters.{prepared_by_request}
use Rattle.shard_laws.proofs.prepared.prepare_times_are_new.Goals as goal

pub returns : goal.returns
returns c = prepared_by_request
