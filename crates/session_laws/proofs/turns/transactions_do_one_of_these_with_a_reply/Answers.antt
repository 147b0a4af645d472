use Rattle.session_laws.proofs.TxnCases.{txn_case}
use Rattle.session_laws.proofs.turns.transactions_do_one_of_these_with_a_reply.Goals as goal

pub returns : goal.returns
returns c = txn_case
