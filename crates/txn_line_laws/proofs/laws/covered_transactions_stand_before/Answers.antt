use Rattle.txn_line_laws.proofs.Dates.{txns_covered}
use Rattle.txn_line_laws.proofs.True.{facts_run}
use Rattle.txn_line_laws.proofs.laws.covered_transactions_stand_before.Goals as goal

pub returns : goal.returns
returns c = λ config steps s n a e. txns_covered config s (facts_run config steps s n a e)
