use Rattle.txn_decision_laws.proofs.Heard.{never_undone}
use Rattle.txn_decision_laws.proofs.decisions.undone_attempts_hear_of_no_commit.Goals as goal

pub returns : goal.returns
returns c = never_undone
