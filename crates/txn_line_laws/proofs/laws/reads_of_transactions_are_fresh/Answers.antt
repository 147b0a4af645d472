use Rattle.txn_line_laws.proofs.Dates.{txns_fresh}
use Rattle.txn_line_laws.proofs.True.{facts_run}
use Rattle.txn_line_laws.proofs.laws.reads_of_transactions_are_fresh.Goals as goal

pub returns : goal.returns
returns c = λ config steps s n a e. txns_fresh config s (facts_run config steps s n a e)
