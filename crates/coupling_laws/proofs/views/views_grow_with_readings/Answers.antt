use Rattle.coupling_laws.proofs.MomentLemmas.{views_grow}
use Rattle.coupling_laws.proofs.views.views_grow_with_readings.Goals as goal

pub returns : goal.returns
returns c = views_grow
