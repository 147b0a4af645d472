use Rattle.shard_laws.proofs.Stays.{closes_stay}
use Rattle.shard_laws.proofs.closing.closed_versions_stay.Goals as goal

pub returns : goal.returns
returns c = closes_stay
