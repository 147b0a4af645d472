use Rattle.script_binding.proofs.AllLimited.{bound_scripts_have_limits}
use Rattle.script_binding.proofs.laws.bound_scripts_have_limits.Goals as goal

pub returns : goal.returns
returns c = bound_scripts_have_limits
