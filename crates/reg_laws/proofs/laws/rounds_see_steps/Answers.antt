-- A call sees each stamp whose step is not later than that of its own first round.
use Rattle.reg_laws.proofs.Above.{sees_run}
use Rattle.reg_laws.proofs.laws.rounds_see_steps.Goals as goal

pub returns : goal.returns
returns c = sees_run
