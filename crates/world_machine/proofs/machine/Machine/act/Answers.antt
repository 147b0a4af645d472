use Rattle.std.proofs.Common.{sym, ap, subst, ◌∙◌}
use Rattle.rss_machine.specs.Effect.{acts}
use Rattle.rss_machine.specs.State.{State}
use Rattle.world_machine.specs.declared.machine.Machine.{Machine}
use Rattle.world_machine.specs.Acts.{CanMake, CanGoOn}
use Rattle.world_machine.proofs.machine.Machine.act.Goals as goal

pub go_on-requires-clause-owned : goal.go_on-requires-clause-owned
go_on-requires-clause-owned c = λ o q. subst (λ (m : Machine). CanGoOn m o c.args.at) (sym c.count_act.ensures.same) (c.requires.can.owned o (sym c.owner_of-owner.ensures ∙ q))

pub go_on-requires-clause-idle : goal.go_on-requires-clause-idle
go_on-requires-clause-idle c = λ q. subst (λ (m : Machine). CanMake m c.args.stage c.args.at) (sym c.count_act.ensures.same) (c.requires.can.idle (sym c.owner_of-owner.ensures ∙ q))
