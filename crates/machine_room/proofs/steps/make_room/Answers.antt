use Rattle.std.proofs.lemmas.Result.{on_ok_weaker}
use Rattle.machine_room.proofs.Stepping.{has_room}
use Rattle.machine_room.proofs.steps.make_room.Goals as goal

pub returns-clause-room : goal.returns-clause-room
returns-clause-room c =
    on_ok_weaker c.make_room.result
    (λ moments. has_room c.make_room_for.new.machine c.make_room.new.self c.args.step.now c.in_ok-make_room_for.ensures.room c.make_room.ensures.same moments c.make_room_for.ensures.quiet)
    c.make_room.ensures.room
