-- Steps are paid by what was sent.
use Rattle.budget_laws.proofs.Paid.{steps_paid}
use Rattle.budget_laws.proofs.laws.steps_are_paid.Goals as goal

pub returns : goal.returns
returns g = steps_paid
