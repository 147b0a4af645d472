use Rattle.std.proofs.Common.{refl}
use Rattle.rss_wire.specs.declared.message.Fate.TheVariants.{Repeated}
use Rattle.stage_mail.proofs.Mailing.{repeated-kept}
use Rattle.stage_mail.proofs.mail.Mail.again.Goals as goal

pub invariant_of-self-2 : goal.invariant_of-self-2
invariant_of-self-2 c =
    repeated-kept c.self.inside.net c.again.new.self c.self.inside.due c.args.number Repeated c.self.invariant refl c.in_ok-again.ensures.accepted c.in_ok-again.ensures.repeated c.in_ok-again.ensures.room
