use Rattle.reg_laws.proofs.Covered.{covered_run}
use Rattle.reg_laws.proofs.laws.covered_stand_before.Goals as goal

pub returns : goal.returns
returns c = covered_run
