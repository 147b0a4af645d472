use Rattle.loss_laws.proofs.Files.{ends}
use Rattle.loss_laws.proofs.laws.owners_end_as_something_is_withheld.Goals as goal

pub returns : goal.returns
returns c = ends
