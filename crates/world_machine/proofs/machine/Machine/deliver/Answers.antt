use Rattle.std.proofs.Common.{sym, ap, subst, ◌∙◌}
use Rattle.rss_wire.specs.declared.message.Fate.TheVariants.{Delivered}
use Rattle.owner_sessions.specs.Boxed.{IsEmptyBox}
use Rattle.world_traffic.specs.View.{TrafficView}
use Rattle.world_machine.specs.Machine.{state_of}
use Rattle.world_machine.proofs.Coming.{come_ready, came}
use Rattle.world_machine.proofs.Sent.{deliver_sent}
use Rattle.world_machine.proofs.machine.Machine.deliver.Goals as goal

pub come-requires : goal.come-requires
come-requires c = record {
  can = come_ready c.args.self.now c.deliver.new.self c.args.number Delivered c.in-Some.envelope c.args.at c.requires.can.ready c.requires.can.facts c.requires.can.quiet (deliver_sent c.args.self.now.traffic.traffic.net c.args.number c.requires.can.pending) c.deliver.ensures (sym c.envelope.ensures ∙ c.in-Some.is) c.requires.can.room;
  quiet = subst IsEmptyBox (sym (ap (λ (v : TrafficView). v.outbox) c.deliver.ensures)) c.requires.can.quiet;
}
