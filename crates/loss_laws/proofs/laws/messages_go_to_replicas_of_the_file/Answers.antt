use Rattle.loss_laws.proofs.Files.{within}
use Rattle.loss_laws.proofs.laws.messages_go_to_replicas_of_the_file.Goals as goal

pub returns : goal.returns
returns c = within
