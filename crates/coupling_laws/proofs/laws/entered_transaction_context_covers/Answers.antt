use Rattle.coupling_laws.proofs.Fences.{txn_entered}
use Rattle.coupling_laws.proofs.laws.entered_transaction_context_covers.Goals as goal

pub returns : goal.returns
returns c = txn_entered
