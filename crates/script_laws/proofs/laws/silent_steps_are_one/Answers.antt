use Rattle.script_laws.proofs.SilentSteps.{silent-to, silent-from}
use Rattle.script_laws.proofs.laws.silent_steps_are_one.Goals as goal

pub returns : goal.returns
returns c config h stage w v = (silent-from config h stage w v, silent-to config h stage w v)
