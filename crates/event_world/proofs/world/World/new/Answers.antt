use Rattle.event_world.proofs.Keeping.{kept_new}
use Rattle.event_world.proofs.world.World.new.Goals as goal

pub invariant_of-result : goal.invariant_of-result
invariant_of-result c =
    rw c.new-2.ensures.items (record {
      kept = kept_new c.args.config c.in_ok-machine.machine c.requires.file c.in_ok-machine.ensures.opening c.in_ok-machine.ensures.quiet;
      room = tt;
    })
