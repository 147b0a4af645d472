use Rattle.reg_laws.proofs.FixesEnd.{fixes_end_run}
use Rattle.reg_laws.proofs.laws.fixes_end_settled.Goals as goal

pub returns : goal.returns
returns c = fixes_end_run
