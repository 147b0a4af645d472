use Rattle.std.proofs.Common.{◌∙◌, ap, sym}
use Rattle.std.specs.List.{remove}
use Rattle.stage_mail.specs.Lists.{DueView}
use Rattle.stage_mail.proofs.Taking.{halved, missed}
use Rattle.stage_mail.proofs.numbers.Numbers.take.Goals as goal

pub returns-in-Ok-clause-left : goal.returns-in-Ok-clause-left
returns-in-Ok-clause-left c =
    let held = ap (λ (v : DueView). v.numbers) c.self.view_is in
    c.remove.ensures.items ∙ ap (λ (v : DueView). remove v.numbers c.in-Ok.place) c.self.view_is
    ∙ halved c.deref.result.now c.args.self.now.numbers c.args.number c.binary_search.result c.binary_search.ensures.position (c.deref.ensures.value ∙ held) c.requires.ascending c.in-Ok.place c.in-Ok.is

pub returns-in_default-clause-left : goal.returns-in_default-clause-left
returns-in_default-clause-left c =
    let held = ap (λ (v : DueView). v.numbers) c.self.view_is in
    sym (missed c.deref.result.now c.args.self.now.numbers c.args.number c.binary_search.result c.binary_search.ensures.position (c.deref.ensures.value ∙ held) c.requires.ascending c.in_default.field-0 c.in_default.is)
