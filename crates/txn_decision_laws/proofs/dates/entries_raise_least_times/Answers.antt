use Rattle.txn_decision_laws.proofs.Entered.{entered_run}
use Rattle.txn_decision_laws.proofs.dates.entries_raise_least_times.Goals as goal

pub returns : goal.returns
returns c = entered_run
