use Rattle.world_machine.specs.Machine.{state_of}
use Rattle.call_places.proofs.Keyed.{coordinated}
use Rattle.call_places.proofs.timed_place.Goals as goal

-- src/lib.rt:100:19
pub decided-decided-requires : goal.decided-decided-requires
decided-decided-requires c =
    record { there = coordinated (state_of c.args.m.now) c.args.call c.args.owner.now.row c.requires.facts c.requires.own }
