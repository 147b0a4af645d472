use Rattle.txn_session_laws.proofs.LedKeeps.{led_keeps, led_start, led_ticks}
use Rattle.txn_session_laws.proofs.frames.the_coordinator_alone_is_asked.Goals as goal

pub returns-clause-keeps : goal.returns-clause-keeps
returns-clause-keeps c = led_keeps

pub returns-clause-begins : goal.returns-clause-begins
returns-clause-begins c = led_start

pub returns-clause-counts : goal.returns-clause-counts
returns-clause-counts c = led_ticks
