-- Requests fit their targets.
use Rattle.asked_laws.proofs.Asked.{targets_fit}
use Rattle.asked_laws.proofs.laws.requests_fit_targets.Goals as goal

pub returns : goal.returns
returns g = targets_fit
