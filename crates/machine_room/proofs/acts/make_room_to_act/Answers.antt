use Rattle.std.proofs.lemmas.Result.{on_ok_weaker}
use Rattle.machine_room.proofs.Acting.{act_idle}
use Rattle.machine_room.proofs.acts.make_room_to_act.Goals as goal

pub returns-in-None-clause-room : goal.returns-in-None-clause-room
returns-in-None-clause-room c =
    on_ok_weaker c.make_room_for_statement.result
    (λ h. act_idle c.make_room_for_statement.new.machine c.args.machine.now c.args.at c.args.stage c.owner_of.result c.owner_of.ensures c.in-None.is c.make_room_for_statement.ensures.same c.make_room_for_statement.ensures.clock h)
    c.make_room_for_statement.ensures.room
