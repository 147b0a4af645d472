use Rattle.std.proofs.Common.{◌≡◌, false, ap, sym, ◌∙◌}
use Rattle.rss_machine.specs.Marks.{is_noted}
use Rattle.reg_world.specs.Rows.{MarksView}
use Rattle.reg_world.proofs.Rising.{rising-push}
use Rattle.reg_world.proofs.marks.Marks.note.Goals as goal

pub invariant_of-self : goal.invariant_of-self
invariant_of-self c =
    let view = ap (λ (m : MarksView). m.marks) c.self.view_is in
    let new : is_noted c.self.inside.marks.items c.args.stamp ≡ false = rw view (sym c.is_noted.ensures ∙ c.if-not-is_noted.true) in
    rising-push c.self.inside.marks.items c.push.new.self.items c.args.stamp _ c.self.invariant new (rw c.unwrap.ensures at c.push.ensures.items)
