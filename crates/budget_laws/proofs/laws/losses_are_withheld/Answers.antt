-- What turns lose, the file withholds.
use Rattle.budget_laws.proofs.Lost.{losses_withheld}
use Rattle.budget_laws.proofs.laws.losses_are_withheld.Goals as goal

pub returns : goal.returns
returns g = losses_withheld
