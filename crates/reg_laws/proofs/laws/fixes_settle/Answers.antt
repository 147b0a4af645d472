-- A round of dependencies that is done has settled them.
use Rattle.reg_laws.proofs.Settles.{settle_run}
use Rattle.reg_laws.proofs.laws.fixes_settle.Goals as goal

pub returns : goal.returns
returns c = settle_run
