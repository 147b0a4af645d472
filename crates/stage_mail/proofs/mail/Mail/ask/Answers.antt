use Rattle.std.proofs.Common.{refl}
use Rattle.rss_wire.specs.declared.message.Body.TheVariants as body
use Rattle.rss_wire.specs.declared.message.Fate.TheVariants.{Pending}
use Rattle.rss_wire.specs.Messages.{request_envelope}
use Rattle.stage_mail.proofs.Keeping.{sent-kept}
use Rattle.stage_mail.proofs.mail.Mail.ask.Goals as goal

pub invariant_of-self : goal.invariant_of-self
invariant_of-self c =
    sent-kept c.self.inside.net c.ask-number.new.self c.self.inside.due c.add.new.lists
    (record { envelope = request_envelope c.self.inside.net.messages c.args.owner c.args.stage c.args.target; body = body.Request c.args.body; fate = Pending })
    c.place_of.result c.ask-number.result c.self.invariant c.ask-number.ensures.sent c.ask-number.ensures.room c.ask-number.ensures.number refl c.place_of.ensures.place c.add.ensures.own c.add.ensures.added c.add.ensures.memory
