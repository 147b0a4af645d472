use Rattle.shard_laws.proofs.Closes.{version_stays}
use Rattle.shard_laws.proofs.versions.versions_at_closed_times_stay.Goals as goal

pub returns : goal.returns
returns c = version_stays
