use Rattle.shard_laws.proofs.Laters.{since_served}
use Rattle.shard_laws.proofs.times.later_prepare_times_are_above_the_floor.Goals as goal

pub returns : goal.returns
returns c = since_served
