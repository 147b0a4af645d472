use Rattle.coupling_laws.proofs.MomentLemmas.{come_is_before}
use Rattle.coupling_laws.proofs.views.calls_that_came_are_before.Goals as goal

pub returns : goal.returns
returns c = come_is_before
