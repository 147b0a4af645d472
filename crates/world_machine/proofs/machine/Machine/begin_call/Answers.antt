use Rattle.world_machine.proofs.machine.Machine.begin_call.Goals as goal

pub begin_owner-requires : goal.begin_owner-requires
begin_owner-requires c = record { can = c.open_call-number.ensures.goes c.args.at c.requires.ready.room.turn }
