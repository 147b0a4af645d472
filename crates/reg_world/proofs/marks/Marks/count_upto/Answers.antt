use Rattle.std.proofs.Common.{◌≡◌, true, false, sym, ap, ◌∙◌}
use Rattle.carstamps.specs.Stamp.{stamp_lt, opening_stamp}
use Rattle.reg_world.specs.Rows.{MarksView}
use Rattle.reg_world.proofs.Rising.{last-below}
use Rattle.reg_world.proofs.marks.Marks.count_upto.Goals as goal

pub returns-then-is_above : goal.returns-then-is_above
returns-then-is_above c =
    let view = ap (λ (m : MarksView). m.marks) c.self.view_is in
    let e = last-below opening_stamp c.self.inside.marks.items c.args.stamp c.args.place c.index-mark.result.now c.self.invariant (rw view c.requires.last) c.index-mark.ensures in
    let t : stamp_lt c.index-mark.result.now.stamp c.args.stamp ≡ true = sym c.is_above.ensures.test ∙ c.if-is_above.true in
    rw (← view) (sym (rw t at e))

pub returns-else-is_above : goal.returns-else-is_above
returns-else-is_above c =
    let view = ap (λ (m : MarksView). m.marks) c.self.view_is in
    let e = last-below opening_stamp c.self.inside.marks.items c.args.stamp c.args.place c.index-mark.result.now c.self.invariant (rw view c.requires.last) c.index-mark.ensures in
    let t : stamp_lt c.index-mark.result.now.stamp c.args.stamp ≡ false = sym c.is_above.ensures.test ∙ c.if-is_above.false in
    rw (← view) (sym (rw t at e))
