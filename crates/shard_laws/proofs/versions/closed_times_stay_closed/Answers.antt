use Rattle.shard_laws.proofs.Closes.{closed_later}
use Rattle.shard_laws.proofs.versions.closed_times_stay_closed.Goals as goal

pub returns : goal.returns
returns c = closed_later
