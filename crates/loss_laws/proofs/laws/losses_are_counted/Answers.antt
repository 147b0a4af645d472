use Rattle.loss_laws.proofs.Files.{counted}
use Rattle.loss_laws.proofs.laws.losses_are_counted.Goals as goal

pub returns : goal.returns
returns c = counted
