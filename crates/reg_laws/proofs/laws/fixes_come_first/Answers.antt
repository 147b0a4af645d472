use Rattle.reg_laws.proofs.FixesFirst.{fixes_first_run}
use Rattle.reg_laws.proofs.laws.fixes_come_first.Goals as goal

pub returns : goal.returns
returns c = fixes_first_run
