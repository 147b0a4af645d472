-- The policy runs.
use Rattle.policy_laws.proofs.Taken.{serial_runs}
use Rattle.policy_laws.proofs.laws.policies_run.Goals as goal

pub returns : goal.returns
returns g = serial_runs
