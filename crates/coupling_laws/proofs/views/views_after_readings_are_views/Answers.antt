use Rattle.coupling_laws.proofs.MomentLemmas.{views_are_views}
use Rattle.coupling_laws.proofs.views.views_after_readings_are_views.Goals as goal

pub returns : goal.returns
returns c = views_are_views
