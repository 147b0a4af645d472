use Rattle.txn_session_laws.proofs.UnderWay.{under_way_keeps, under_way_start, under_way_ticks}
use Rattle.txn_session_laws.proofs.frames.what_is_under_way_is_kept.Goals as goal

pub returns-clause-keeps : goal.returns-clause-keeps
returns-clause-keeps c = under_way_keeps

pub returns-clause-begins : goal.returns-clause-begins
returns-clause-begins c = under_way_start

pub returns-clause-counts : goal.returns-clause-counts
returns-clause-counts c = under_way_ticks
