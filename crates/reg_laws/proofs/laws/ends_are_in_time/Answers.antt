use Rattle.reg_laws.proofs.AtDates.{ends_in_time_run}
use Rattle.reg_laws.proofs.laws.ends_are_in_time.Goals as goal

pub returns : goal.returns
returns c = ends_in_time_run
