-- Calls take effect after they begin.
use Rattle.reg_laws.proofs.Legal.{inside_run}
use Rattle.reg_laws.proofs.laws.places_are_inside.Goals as goal

pub returns : goal.returns
returns c = inside_run
