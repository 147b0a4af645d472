use Rattle.txn_session_laws.proofs.Awaited.{awaited_start, awaited_ticks}
use Rattle.txn_session_laws.proofs.AwaitedKeeps.{awaited_keeps}
use Rattle.txn_session_laws.proofs.frames.what_is_awaited_is_kept.Goals as goal

pub returns-clause-keeps : goal.returns-clause-keeps
returns-clause-keeps c = awaited_keeps

pub returns-clause-begins : goal.returns-clause-begins
returns-clause-begins c = awaited_start

pub returns-clause-counts : goal.returns-clause-counts
returns-clause-counts c = awaited_ticks
