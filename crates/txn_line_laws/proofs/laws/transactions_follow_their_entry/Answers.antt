use Rattle.txn_line_laws.proofs.Dates.{txns_enter}
use Rattle.txn_line_laws.proofs.True.{facts_run}
use Rattle.txn_line_laws.proofs.laws.transactions_follow_their_entry.Goals as goal

pub returns : goal.returns
returns c = λ config steps s n a e. txns_enter config s (facts_run config steps s n a e)
