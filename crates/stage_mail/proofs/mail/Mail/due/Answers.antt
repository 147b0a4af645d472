use Rattle.std.proofs.Common.{◌∙◌, sym, ap}
use Rattle.rss_wire.specs.Net.{NetView}
use Rattle.rss_machine.specs.Turns.{due_message}
use Rattle.stage_mail.proofs.Keeping.{first-due, none-due}
use Rattle.stage_mail.proofs.mail.Mail.due.Goals as goal

pub returns-in-Some : goal.returns-in-Some
returns-in-Some c =
    c.copied.ensures ∙ c.envelope.ensures
    ∙ first-due c.self.inside.net c.self.inside.due c.place_of.result c.args.stage c.in-Some.number c.self.invariant c.place_of.ensures.within c.place_of.ensures.place (sym c.first.ensures ∙ c.in-Some.is)
    ∙ ap (λ (v : NetView). due_message c.args.stage v.messages) c.self.view_is

pub returns-in-None : goal.returns-in-None
returns-in-None c =
    sym (none-due c.self.inside.net c.self.inside.due c.place_of.result c.args.stage c.self.invariant c.place_of.ensures.within c.place_of.ensures.place (sym c.first.ensures ∙ c.in-None.is))
    ∙ ap (λ (v : NetView). due_message c.args.stage v.messages) c.self.view_is
