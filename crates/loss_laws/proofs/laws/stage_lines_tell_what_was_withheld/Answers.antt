use Rattle.loss_laws.proofs.Files.{stages}
use Rattle.loss_laws.proofs.laws.stage_lines_tell_what_was_withheld.Goals as goal

pub returns : goal.returns
returns c = stages
