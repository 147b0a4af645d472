use Rattle.txn_decision_laws.proofs.DecidedKeeps.{decided_keeps}
use Rattle.txn_decision_laws.proofs.DecisionStarts.{decided_start, decided_ticks}
use Rattle.txn_decision_laws.proofs.decisions.decisions_are_kept.Goals as goal

pub returns-clause-first : goal.returns-clause-first
returns-clause-first c = decided_start

pub returns-clause-counted : goal.returns-clause-counted
returns-clause-counted c = decided_ticks

pub returns-clause-kept : goal.returns-clause-kept
returns-clause-kept c = decided_keeps
