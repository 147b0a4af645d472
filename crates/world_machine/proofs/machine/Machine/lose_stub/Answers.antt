use Rattle.std.proofs.Common.{◌≡◌, ℕ, ap, subst}
use Rattle.rss_machine.specs.Moves.{cuts_from}
use Rattle.rss_machine.specs.State.{State}
use Rattle.world_parts.specs.Parts.{in_staging}
use Rattle.world_traffic.specs.View.{TrafficView}
use Rattle.world_machine.specs.Clock.{clock_in}
use Rattle.world_machine.proofs.Dying.{stub_lost}
use Rattle.world_machine.proofs.machine.Machine.lose_stub.Goals as goal

pub returns-clause-loses : goal.returns-clause-loses
returns-clause-loses c =
    stub_lost c.args.self.now.config (clock_in c.args.self.now.clock) c.args.self.now.staging.staging c.cut_pipes.new.self.staging c.args.self.now.traffic.traffic c.close.new.self.traffic c.args.self.now.stores.stores c.args.owner c.args.target
    (ap (λ (v : TrafficView). v.traffic) c.close.ensures)
    (subst (λ (n : ℕ). c.cut_pipes.new.self.staging ≡ in_staging (λ (s : State). cuts_from c.args.self.now.config s n 1 c.args.self.now.config.pipe_ends) c.args.self.now.staging.staging) c.stage_of-stage.ensures c.cut_pipes.ensures)
