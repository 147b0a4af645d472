use Rattle.std.proofs.Common.{ap, ◌∙◌}
use Rattle.world_parts.specs.Parts.{Staging}
use Rattle.world_stages.specs.View.{StagingView}
use Rattle.world_machine.proofs.machine.Machine.count_act.Goals as goal

pub returns : goal.returns
returns c = record { same = ap (λ (v : StagingView). record c.args.self.now { staging = v }) (c.count_act.ensures.others ∙ ap (λ (g : Staging). record c.args.self.now.staging { staging = g }) c.count_act.ensures.counts) }
