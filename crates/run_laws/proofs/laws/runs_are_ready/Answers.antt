-- Runs are ready for the code of a step.
use Rattle.run_laws.proofs.Facts.{ready_run}
use Rattle.run_laws.proofs.laws.runs_are_ready.Goals as goal

pub returns : goal.returns
returns g = ready_run
