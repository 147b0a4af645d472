use Rattle.std.proofs.Common.{List, ◌∙◌, arith}
use Rattle.std.proofs.Math.Seq.{map-set_same}
use Rattle.rss_machine.specs.declared.state.Mark.{Mark}
use Rattle.reg_world.specs.Rows.{MarksView}
use Rattle.reg_world.proofs.Rooms.{room-one, room-all}
use Rattle.reg_world.proofs.registers.make_room.Goals as goal

pub returns-in_err-make_room-clause-same : goal.returns-in_err-make_room-clause-same
returns-in_err-make_room-clause-same c =
    map-set_same {B = List Mark} (λ (r : MarksView). r.marks) c.loop-place.registers c.loop-place.place c.make_room.new.self c.index-registers-place.result c.in_err-make_room.ensures.same ∙ c.loop-place.invariant.same

pub loop-place-preserved : goal.loop-place-preserved
loop-place-preserved c =
    record {
      same = map-set_same {B = List Mark} (λ (r : MarksView). r.marks) c.loop-place.registers c.loop-place.place c.make_room.new.self c.index-registers-place.result c.in_ok-make_room.ensures.same ∙ c.loop-place.invariant.same;
      room = room-one c.loop-place.registers c.loop-place.place c.make_room.new.self c.loop-place.invariant.room (omega arith) c.in_ok-make_room.ensures.room;
    }

pub returns-clause-room : goal.returns-clause-room
returns-clause-room c = room-all c.loop-place.registers c.loop-place.place (omega arith) c.loop-place.invariant.room
