use Rattle.txn_decision_laws.proofs.JustKeeps.{just_keeps}
use Rattle.txn_decision_laws.proofs.DecisionStarts.{just_start, just_ticks}
use Rattle.txn_decision_laws.proofs.decisions.requests_are_just.Goals as goal

pub returns-clause-first : goal.returns-clause-first
returns-clause-first c = just_start

pub returns-clause-counted : goal.returns-clause-counted
returns-clause-counted c = just_ticks

pub returns-clause-kept : goal.returns-clause-kept
returns-clause-kept c = just_keeps
