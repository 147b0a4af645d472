use Rattle.txn_session_laws.proofs.FramedTurns.{framed_keeps}
use Rattle.txn_session_laws.proofs.Starts.{framed_start, framed_ticks}
use Rattle.txn_session_laws.proofs.frames.frames_are_kept.Goals as goal

pub returns-clause-keeps : goal.returns-clause-keeps
returns-clause-keeps c = framed_keeps

pub returns-clause-begins : goal.returns-clause-begins
returns-clause-begins c = framed_start

pub returns-clause-counts : goal.returns-clause-counts
returns-clause-counts c = framed_ticks
