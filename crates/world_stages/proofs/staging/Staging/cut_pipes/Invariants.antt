use Rattle.std.proofs.Common.{◌≡◌, ◌+◌, drop}
use Rattle.rss_machine.specs.Moves.{cuts_from}
use Rattle.rss_machine.specs.State.{State}
use Rattle.world_parts.specs.Parts.{in_staging}
use Rattle.world_stages.proofs.staging.Staging.cut_pipes.Given as goal

-- the pipes that were passed and those that are left are all
abbrev pub invariant-loop-place : goal.invariant-loop-place
invariant-loop-place l = in_staging (λ (s : State). cuts_from l.config s l.stage (l.place + 1) (drop l.place l.config.pipe_ends)) l.self.staging ≡ in_staging (λ (s : State). cuts_from l.config s l.stage 1 l.config.pipe_ends) l.fn.self.staging
