use Rattle.session_laws.proofs.Keeps.{txn_start_same, txn_turn_same, txn_wake_same, txn_pass_same, txn_frames_stay}
use Rattle.session_laws.proofs.sessions.transactions_keep_what_they_are.Goals as goal

pub returns-clause-starts : goal.returns-clause-starts
returns-clause-starts c = txn_start_same

pub returns-clause-hears : goal.returns-clause-hears
returns-clause-hears c = txn_turn_same

pub returns-clause-wakes : goal.returns-clause-wakes
returns-clause-wakes c = txn_wake_same

pub returns-clause-passes : goal.returns-clause-passes
returns-clause-passes c = txn_pass_same

pub returns-clause-stays : goal.returns-clause-stays
returns-clause-stays c = txn_frames_stay
