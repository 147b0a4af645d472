use Rattle.std.proofs.Common.{ap}
use Rattle.carstamps.specs.Stamp.{opening_stamp}
use Rattle.reg_world.specs.Rows.{MarksView}
use Rattle.reg_world.proofs.Rising.{rising-ascend}
use Rattle.reg_world.proofs.marks.search.Goals as goal

pub last_at_most-requires : goal.last_at_most-requires
last_at_most-requires g c =
    let view = ap (λ (m : MarksView). m.marks) c.marks.view_is in
    record { ascending = rw (← view) (rising-ascend opening_stamp c.marks.inside.marks.items c.marks.invariant) }
