use Rattle.std.proofs.Common.{ap, ◌∙◌}
use Rattle.reg_world.specs.Rows.{MarksView}
use Rattle.reg_world.proofs.Rising.{first-at, first-past}
use Rattle.reg_world.proofs.marks.Marks.first.Goals as goal

pub returns-in-Some : goal.returns-in-Some
returns-in-Some c =
    let view = ap (λ (m : MarksView). m.marks) c.self.view_is in
    let found = c.in-Some.ensures.lookup in
    first-at c.args.self.now.marks c.deref.result.now c.args.stamp c.count_below.result c.in-Some.mark.now (c.deref.ensures.value ∙ view) c.count_below.ensures found.3.0 found.1

pub returns-in-None : goal.returns-in-None
returns-in-None c =
    let view = ap (λ (m : MarksView). m.marks) c.self.view_is in
    let found = c.in-None.ensures.lookup in
    first-past c.args.self.now.marks c.deref.result.now c.args.stamp c.count_below.result (c.deref.ensures.value ∙ view) c.count_below.ensures found.3
