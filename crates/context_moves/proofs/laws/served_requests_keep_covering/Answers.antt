use Rattle.context_moves.proofs.Ticking.{replica_covering}
use Rattle.context_moves.proofs.laws.served_requests_keep_covering.Goals as goal

pub returns : goal.returns
returns g c b s m service replica r o k = replica_covering c b s m service replica r o k
