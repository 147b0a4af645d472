-- Turns of a file that orders nothing hurt nobody.
use Rattle.ending_laws.proofs.Calm.{unhurt}
use Rattle.ending_laws.proofs.laws.nobody_is_hurt.Goals as goal

pub returns : goal.returns
returns g = unhurt
