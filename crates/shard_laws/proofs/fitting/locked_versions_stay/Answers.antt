use Rattle.shard_laws.proofs.Fits.{locked_later}
use Rattle.shard_laws.proofs.fitting.locked_versions_stay.Goals as goal

pub returns : goal.returns
returns c = locked_later
