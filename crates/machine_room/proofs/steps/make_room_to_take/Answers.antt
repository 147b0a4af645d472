use Rattle.std.proofs.Common.{sym, ◌∙◌}
use Rattle.machine_room.proofs.Known.{sender_begun, target_there, homes_of}
use Rattle.machine_room.proofs.steps.make_room_to_take.Goals as goal

pub make_room_to_come-requires-clause-here : goal.make_room_to_come-requires-clause-here
make_room_to_come-requires-clause-here c = target_there c.args.machine.now c.args.number c.in-Some.envelope c.requires.ready c.requires.sent (sym c.envelope.ensures ∙ c.in-Some.is)

pub make_room_to_come-requires-clause-begun : goal.make_room_to_come-requires-clause-begun
make_room_to_come-requires-clause-begun c = sender_begun c.args.machine.now c.args.number c.in-Some.envelope c.requires.ready c.requires.sent (sym c.envelope.ensures ∙ c.in-Some.is)

pub make_room_to_come-requires-clause-homes : goal.make_room_to_come-requires-clause-homes
make_room_to_come-requires-clause-homes c = homes_of c.args.machine.now c.in-Some.envelope.owner c.requires.facts
