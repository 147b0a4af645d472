use Rattle.shard_laws.proofs.Releases.{keys_later}
use Rattle.shard_laws.proofs.fitting.keys_stay.Goals as goal

pub returns : goal.returns
returns c = keys_later
