use Rattle.txn_session_laws.proofs.Goes.{onward}
use Rattle.txn_session_laws.proofs.onward.sessions_go_on.Goals as goal

pub returns : goal.returns
returns c = onward
