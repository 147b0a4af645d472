use Rattle.txn_decision_laws.proofs.CalmKeeps.{calm_keeps}
use Rattle.txn_decision_laws.proofs.DecisionStarts.{calm_start, calm_ticks}
use Rattle.txn_decision_laws.proofs.decisions.lines_wait_for_others_only_while_they_lock.Goals as goal

pub returns-clause-first : goal.returns-clause-first
returns-clause-first c = calm_start

pub returns-clause-counted : goal.returns-clause-counted
returns-clause-counted c = calm_ticks

pub returns-clause-kept : goal.returns-clause-kept
returns-clause-kept c = calm_keeps
