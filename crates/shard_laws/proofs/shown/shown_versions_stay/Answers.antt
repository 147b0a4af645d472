use Rattle.shard_laws.proofs.Stays.{shown_stay}
use Rattle.shard_laws.proofs.shown.shown_versions_stay.Goals as goal

pub returns : goal.returns
returns c = shown_stay
