use Rattle.coupling_laws.proofs.MomentLemmas.{before_from, before_to}
use Rattle.coupling_laws.proofs.views.before_means_an_early_step.Goals as goal

pub returns : goal.returns
returns c = record { from = before_from; to = before_to }
