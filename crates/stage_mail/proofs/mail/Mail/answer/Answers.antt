use Rattle.std.proofs.Common.{refl, ap, ◌∙◌}
use Rattle.rss_wire.specs.declared.message.Body.TheVariants as body
use Rattle.rss_wire.specs.declared.message.Fate.TheVariants.{Pending}
use Rattle.rss_wire.specs.Messages.{reply_envelope, is_asked}
use Rattle.rss_wire.specs.Net.{NetView}
use Rattle.stage_mail.proofs.Keeping.{sent-kept, asked-sent}
use Rattle.stage_mail.proofs.mail.Mail.answer.Goals as goal

pub place_of-place-requires : goal.place_of-place-requires
place_of-place-requires c = record { sent = asked-sent c.self.inside.net.messages c.args.exchange c.self.invariant.begins (ap (λ (v : NetView). is_asked v.messages c.args.exchange) c.self.view_is ∙ c.requires.asked) }

pub invariant_of-self : goal.invariant_of-self
invariant_of-self c =
    sent-kept c.self.inside.net c.answer-number.new.self c.self.inside.due c.add.new.lists
    (record { envelope = reply_envelope c.self.inside.net.messages c.args.exchange; body = body.Reply c.args.body; fate = Pending })
    c.place_of-place.result c.answer-number.result c.self.invariant c.answer-number.ensures.sent c.answer-number.ensures.room c.answer-number.ensures.number refl c.place_of-place.ensures.place c.add.ensures.own c.add.ensures.added c.add.ensures.memory
