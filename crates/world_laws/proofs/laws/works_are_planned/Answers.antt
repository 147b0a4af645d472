use Rattle.world_laws.proofs.PlannedRuns.{planned_run}
use Rattle.world_laws.proofs.laws.works_are_planned.Goals as goal

pub returns : goal.returns
returns c = planned_run
