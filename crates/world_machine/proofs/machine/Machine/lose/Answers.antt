use Rattle.std.proofs.Common.{sym, ◌∙◌, subst}
use Rattle.world_machine.specs.declared.machine.Machine.{Machine}
use Rattle.world_machine.specs.Dying.{CanLose}
use Rattle.world_machine.proofs.Losing.{borne}
use Rattle.world_machine.proofs.machine.Machine.lose.Goals as goal

pub end_loss-requires-clause-can : goal.end_loss-requires-clause-can
end_loss-requires-clause-can c =
    subst (λ (m : Machine). CanLose m c.in-Some.envelope.owner) (sym c.bear-target.ensures.others)
    (borne c.args.self.now c.bear-target.new.self.traffic c.args.number c.in-Some.envelope c.requires.can (sym c.envelope.ensures ∙ c.in-Some.is) c.bear-target.ensures.traffic c.bear-target.ensures.free c.bear-target.ensures.next).lost
