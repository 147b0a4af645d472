use Rattle.txn_line_laws.proofs.Dates.{txns_inside}
use Rattle.txn_line_laws.proofs.True.{facts_run}
use Rattle.txn_line_laws.proofs.laws.transactions_are_inside.Goals as goal

pub returns : goal.returns
returns c = λ config steps s n a e. txns_inside config s (facts_run config steps s n a e)
