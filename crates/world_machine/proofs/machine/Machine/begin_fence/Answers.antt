use Rattle.world_machine.proofs.machine.Machine.begin_fence.Goals as goal

pub begin_owner-requires : goal.begin_owner-requires
begin_owner-requires c = record { can = c.open_fence-number.ensures.goes c.args.at c.requires.ready.turn }
