use Rattle.rss_machine.specs.Run.{steps_of}
use Rattle.world_machine.specs.Machine.{state_of}
use Rattle.event_world.proofs.Keeping.{ordered}
use Rattle.world_laws.proofs.Readings.{readings_consistent}
use Rattle.event_world.proofs.world.World.log.Goals as goal

pub returns-clause-consistent : goal.returns-clause-consistent
returns-clause-consistent c =
    rw (← c.self.view_is) (readings_consistent c.self.inside.machine.config (steps_of c.self.inside.log.items) (state_of c.self.inside.machine) c.self.invariant.kept.replays (ordered (steps_of c.self.inside.log.items) c.self.invariant.kept.readings))
