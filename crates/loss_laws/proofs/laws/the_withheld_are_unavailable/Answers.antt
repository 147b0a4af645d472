use Rattle.loss_laws.proofs.Files.{nothing}
use Rattle.loss_laws.proofs.laws.the_withheld_are_unavailable.Goals as goal

pub returns : goal.returns
returns c = nothing
