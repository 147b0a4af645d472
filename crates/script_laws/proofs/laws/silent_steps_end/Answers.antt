use Rattle.script_laws.proofs.SilentSteps.{silent-from}
use Rattle.script_laws.proofs.Falling.{silent_falls}
use Rattle.script_laws.proofs.laws.silent_steps_end.Goals as goal

pub returns : goal.returns
returns c config h stage w v s = silent_falls config h stage w v (silent-from config h stage w v s)
