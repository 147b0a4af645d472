use Rattle.std.proofs.Common.{◌≡◌, drop, None}
use Rattle.std.specs.List.{list_any}
use Rattle.rss_machine.specs.Standing.{life_state, is_hurt}
use Rattle.rss_machine.specs.State.{Stage}
use Rattle.world_stages.proofs.standing.is_any_hurt.Given as goal

-- none of the stages so far was hurt
abbrev pub invariant-loop-stage : goal.invariant-loop-stage
invariant-loop-stage l = list_any (λ (stage : Stage). is_hurt (life_state stage.life None)) l.stages ≡ list_any (λ (stage : Stage). is_hurt (life_state stage.life None)) (drop l.stage-index l.stages)
