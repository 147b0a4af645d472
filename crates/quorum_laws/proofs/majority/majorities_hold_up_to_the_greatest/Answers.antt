use Rattle.quorum_laws.proofs.Greatest.{held_exactly, held_exactly_above}
use Rattle.quorum_laws.proofs.majority.majorities_hold_up_to_the_greatest.Goals as goal

pub returns-clause-replicas : goal.returns-clause-replicas
returns-clause-replicas g c xs stamp_of stamp l = held_exactly stamp_of xs stamp l

pub returns-clause-above_opening : goal.returns-clause-above_opening
returns-clause-above_opening g c xs stamp_of stamp n = held_exactly_above stamp_of xs stamp n
