use Rattle.shard_laws.proofs.Laters.{floor_later}
use Rattle.shard_laws.proofs.times.the_floor_never_falls.Goals as goal

pub returns : goal.returns
returns c = floor_later
