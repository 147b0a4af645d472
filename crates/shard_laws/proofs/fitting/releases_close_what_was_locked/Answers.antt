use Rattle.shard_laws.proofs.Releases.{release_closes}
use Rattle.shard_laws.proofs.fitting.releases_close_what_was_locked.Goals as goal

pub returns : goal.returns
returns c = release_closes
