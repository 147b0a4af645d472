use Rattle.std.proofs.Common.{refl}
use Rattle.rss_wire.specs.declared.message.Fate.TheVariants.{Lost}
use Rattle.stage_mail.proofs.Keeping.{list-rises, met-sent, taken-kept}
use Rattle.stage_mail.proofs.mail.Mail.lose.Goals as goal

pub place_of-place-requires : goal.place_of-place-requires
place_of-place-requires c = record { sent = met-sent c.self.inside.net.messages c.lose.new.self.messages c.args.number Lost c.in_ok-lose.ensures.accepted c.in_ok-lose.ensures.lost }

pub take-requires-clause-ascending : goal.take-requires-clause-ascending
take-requires-clause-ascending c = list-rises c.self.inside.net c.self.inside.due c.place_of-place.result c.self.invariant c.place_of-place.ensures.within

pub invariant_of-self-2 : goal.invariant_of-self-2
invariant_of-self-2 c =
    taken-kept c.self.inside.net c.lose.new.self c.self.inside.due c.take.new.lists c.args.number Lost c.place_of-place.result c.self.invariant refl
    c.in_ok-lose.ensures.accepted c.in_ok-lose.ensures.lost c.in_ok-lose.ensures.room c.place_of-place.ensures.place c.take.ensures.own c.take.ensures.left c.take.ensures.memory
