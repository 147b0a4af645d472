use Rattle.loss_laws.proofs.Files.{cut_off}
use Rattle.loss_laws.proofs.laws.cut_off_or_nothing_withheld.Goals as goal

pub returns : goal.returns
returns c = cut_off
