use Rattle.shard_laws.proofs.Closes.{rising, at_most_floor}
use Rattle.shard_laws.proofs.versions.versions_rise_up_to_the_floor.Goals as goal

pub returns-clause-rise : goal.returns-clause-rise
returns-clause-rise c = rising

pub returns-clause-up_to_the_floor : goal.returns-clause-up_to_the_floor
returns-clause-up_to_the_floor c = at_most_floor
