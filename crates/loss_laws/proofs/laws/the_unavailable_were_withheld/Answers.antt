use Rattle.loss_laws.proofs.Files.{withheld}
use Rattle.loss_laws.proofs.laws.the_unavailable_were_withheld.Goals as goal

pub returns : goal.returns
returns c = withheld
