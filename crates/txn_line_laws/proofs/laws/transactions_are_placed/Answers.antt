use Rattle.txn_line_laws.proofs.Placed.{txns_placed}
use Rattle.txn_line_laws.proofs.True.{facts_run}
use Rattle.txn_line_laws.proofs.laws.transactions_are_placed.Goals as goal

pub returns : goal.returns
returns c = λ config steps s n a e. txns_placed config s (facts_run config steps s n a e)
