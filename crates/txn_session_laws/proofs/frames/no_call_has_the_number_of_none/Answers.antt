use Rattle.txn_session_laws.proofs.Starts.{none_keeps, none_start, none_ticks}
use Rattle.txn_session_laws.proofs.frames.no_call_has_the_number_of_none.Goals as goal

pub returns-clause-keeps : goal.returns-clause-keeps
returns-clause-keeps c = none_keeps

pub returns-clause-begins : goal.returns-clause-begins
returns-clause-begins c = none_start

pub returns-clause-counts : goal.returns-clause-counts
returns-clause-counts c = none_ticks
