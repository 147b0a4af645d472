-- The policy ends with the log or with all stages.
use Rattle.policy_laws.proofs.Whole.{serial_whole}
use Rattle.policy_laws.proofs.laws.policies_end_whole.Goals as goal

pub returns : goal.returns
returns g = serial_whole
