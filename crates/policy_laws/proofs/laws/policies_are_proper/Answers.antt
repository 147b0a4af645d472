-- The policy's steps are proper.
use Rattle.policy_laws.proofs.Proper.{serial_proper}
use Rattle.policy_laws.proofs.laws.policies_are_proper.Goals as goal

pub returns : goal.returns
returns g = serial_proper
