use Rattle.txn_line_laws.proofs.Legal.{txns_legal}
use Rattle.txn_line_laws.proofs.True.{facts_run}
use Rattle.txn_line_laws.proofs.laws.transactions_are_legal.Goals as goal

pub returns : goal.returns
returns c = λ config steps s n a e. txns_legal config s (facts_run config steps s n a e)
