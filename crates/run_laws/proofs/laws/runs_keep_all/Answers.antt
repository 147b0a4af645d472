-- All that every run keeps.
use Rattle.run_laws.proofs.Facts.{keeps_run}
use Rattle.run_laws.proofs.laws.runs_keep_all.Goals as goal

pub returns : goal.returns
returns g = keeps_run
