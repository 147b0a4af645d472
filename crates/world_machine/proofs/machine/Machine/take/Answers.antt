use Rattle.std.proofs.Common.{sym, ap, subst}
use Rattle.owner_sessions.specs.Boxed.{IsEmptyBox}
use Rattle.world_traffic.specs.View.{TrafficView}
use Rattle.world_machine.proofs.Doing.{can_take}
use Rattle.world_machine.proofs.machine.Machine.take.Goals as goal

pub count-requires : goal.count-requires
count-requires c = record { can = can_take c.args.self.now c.args.s.now c.requires.ready c.requires.facts c.requires.numbered c.requires.allowed c.requires.room }

pub make-requires : goal.make-requires
make-requires c = record { can = c.count.ensures.can; quiet = subst IsEmptyBox (sym (ap (λ (v : TrafficView). v.outbox) c.count.ensures.traffic)) c.requires.room.quiet }
