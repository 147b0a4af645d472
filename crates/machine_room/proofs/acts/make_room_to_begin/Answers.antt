use Rattle.machine_room.proofs.Acting.{op_fits, op_homed}
use Rattle.machine_room.proofs.acts.make_room_to_begin.Goals as goal

pub make_room_to_call-requires-clause-fits : goal.make_room_to_call-requires-clause-fits
make_room_to_call-requires-clause-fits c = op_fits c.args.machine.now c.args.stage c.in-Some.op _ c.requires.facts c.in_ok-op.ensures c.in-Some.is

pub make_room_to_call-requires-clause-homes : goal.make_room_to_call-requires-clause-homes
make_room_to_call-requires-clause-homes c = op_homed c.args.machine.now c.args.stage c.in-Some.op _ c.requires.facts c.in_ok-op.ensures c.in-Some.is
