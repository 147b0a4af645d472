-- Turns are paid by what was sent.
use Rattle.budget_laws.proofs.Lost.{turns_paid}
use Rattle.budget_laws.proofs.laws.turns_are_paid.Goals as goal

pub returns : goal.returns
returns g = turns_paid
