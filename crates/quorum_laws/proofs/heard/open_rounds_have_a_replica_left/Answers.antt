use Rattle.quorum_laws.proofs.Left.{replica_left}
use Rattle.quorum_laws.proofs.heard.open_rounds_have_a_replica_left.Goals as goal

pub returns : goal.returns
returns c = replica_left
