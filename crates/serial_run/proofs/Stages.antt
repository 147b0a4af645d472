-- Whose step it is.
use Rattle.std.proofs.Common.{◌≡◌, ℕ, zero, suc, ◌+◌, ◌-◌, ◌<◌, ◌≤◌, Option, Some, None, refl, ap, ◌∙◌, arith}
use Rattle.std.specs.Prelude.{if◌then◌else◌}
use Rattle.pipeline_lang.specs.declared.config.Config.{Config}
use Rattle.rss_machine.specs.Serial.{has_step, first_stage}
use Rattle.rss_machine.specs.State.{State}
use Rattle.rss_machine.specs.Turns.{next_for}

-- one more stage is looked at
pub one_stage_more : (c : Config) (s : State) (n left : ℕ) → 0 < left → first_stage c s n left ≡ (if has_step (next_for c s n) then n else first_stage c s (n + 1) (left - 1))
one_stage_more c s n zero h = absurd (omega (arith, h))
one_stage_more c s n (suc left) h = let e : suc left - 1 ≡ left = omega arith in rw e refl
