use Rattle.txn_session_laws.proofs.Tells.{told_keeps, told_start, told_ticks}
use Rattle.txn_session_laws.proofs.onward.lines_are_told.Goals as goal

pub returns : goal.returns
returns c = record { keeps = told_keeps; first = told_start; ticks_keep = told_ticks }
