-- The step of a turn is taken.
use Rattle.policy_laws.proofs.Taken.{step_taken}
use Rattle.policy_laws.proofs.laws.policy_steps_are_taken.Goals as goal

pub returns : goal.returns
returns g = step_taken
