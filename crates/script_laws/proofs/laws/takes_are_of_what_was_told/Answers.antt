use Rattle.script_laws.proofs.TakeSteps.{take-to, take-from}
use Rattle.script_laws.proofs.laws.takes_are_of_what_was_told.Goals as goal

pub returns : goal.returns
returns c config h stage pipe number giving w v = (
  λ t. let taken = take-from config h stage giving w v pipe number t in
      (taken.value, taken.told, taken.steps),
  λ t. take-to config h stage giving w v pipe number t.0 t.1 t.2,
)
