use Rattle.std.proofs.Common.{◌≡◌, ℕ, ap, subst}
use Rattle.rss_machine.specs.Moves.{gives_exit}
use Rattle.rss_machine.specs.State.{State}
use Rattle.world_parts.specs.Parts.{in_staging}
use Rattle.world_traffic.specs.View.{TrafficView}
use Rattle.world_machine.specs.Clock.{clock_in}
use Rattle.world_machine.proofs.Endings.{stub_ended}
use Rattle.world_machine.proofs.machine.Machine.end_stub.Goals as goal

pub returns-clause-ends : goal.returns-clause-ends
returns-clause-ends c =
    stub_ended c.args.self.now.config (clock_in c.args.self.now.clock) c.args.self.now.staging c.give_exit.new.self.staging c.args.self.now.traffic.traffic c.close_stub.new.self.traffic c.args.self.now.stores.stores c.args.owner c.requires.room
    (ap (λ (v : TrafficView). v.traffic) c.close_stub.ensures)
    (subst (λ (n : ℕ). c.give_exit.new.self.staging ≡ in_staging (λ (s : State). gives_exit c.args.self.now.config s n c.args.self.now.staging.spare.seen) c.args.self.now.staging.staging) c.stage_of-stage.ensures c.give_exit.ensures)
