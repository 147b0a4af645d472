use Rattle.world_laws.proofs.ToldLaws.{dates_run}
use Rattle.world_laws.proofs.laws.dates_stand_in_order.Goals as goal

pub returns : goal.returns
returns c = dates_run
