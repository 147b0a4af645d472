-- What the stages may cost is less than the budget.
use Rattle.budget_laws.proofs.Bounds.{enough_log}
use Rattle.budget_laws.proofs.laws.costs_are_enough.Goals as goal

pub returns : goal.returns
returns g = enough_log
