use Rattle.txn_session_laws.proofs.Heard.{answers_hold}
use Rattle.txn_session_laws.proofs.frames.answers_are_heard.Goals as goal

pub returns : goal.returns
returns c = answers_hold
