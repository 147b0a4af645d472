-- What a call ends with is held.
use Rattle.reg_laws.proofs.Above.{ends_run}
use Rattle.reg_laws.proofs.laws.ends_are_held.Goals as goal

pub returns : goal.returns
returns c = ends_run
