-- Stages, owners and exchanges are linked.
use Rattle.ready_laws.proofs.Links.{links_run}
use Rattle.ready_laws.proofs.laws.links_are_sound.Goals as goal

pub returns : goal.returns
returns g = links_run
