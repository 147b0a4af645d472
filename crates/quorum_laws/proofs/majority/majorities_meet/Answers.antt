use Rattle.quorum_laws.proofs.Counts.{majorities_have_common_place}
use Rattle.quorum_laws.proofs.majority.majorities_meet.Goals as goal

pub returns : goal.returns
returns g c = majorities_have_common_place
