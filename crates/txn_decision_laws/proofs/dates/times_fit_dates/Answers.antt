use Rattle.txn_decision_laws.proofs.DateKeeps.{dated_keeps}
use Rattle.txn_decision_laws.proofs.DateStarts.{dated_start, dated_ticks}
use Rattle.txn_decision_laws.proofs.dates.times_fit_dates.Goals as goal

pub returns-clause-kept : goal.returns-clause-kept
returns-clause-kept c = dated_keeps

pub returns-clause-first : goal.returns-clause-first
returns-clause-first c = dated_start

pub returns-clause-ticked : goal.returns-clause-ticked
returns-clause-ticked c = dated_ticks
