use Rattle.std.proofs.Common.{sym, ◌∙◌}
use Rattle.machine_room.proofs.Known.{sender_begun}
use Rattle.machine_room.proofs.steps.make_room_to_lose.Goals as goal

pub make_room_for_loss-requires-clause-begun : goal.make_room_for_loss-requires-clause-begun
make_room_for_loss-requires-clause-begun c = sender_begun c.args.machine.now c.args.number c.in-Some.envelope c.requires.ready c.requires.sent (sym c.envelope.ensures ∙ c.in-Some.is)
