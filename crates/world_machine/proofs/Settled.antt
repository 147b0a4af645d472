-- Stages that are settled, by the stages that spawn them.
use Rattle.std.proofs.Common.{◌≡◌, ℕ, zero, suc, ◌-◌, ◌<◌, ◌&&◌, refl, arith, if◌then◌else◌}
use Rattle.std.specs.Prelude.{nat_lt}
use Rattle.pipeline_lang.specs.declared.config.Config.{Config}
use Rattle.rss_machine.specs.Standing.{stage_state, is_done, is_unborn, is_settled_within, parent_of}
use Rattle.rss_machine.specs.State.{State}

-- one more stage is asked
pub settled_within : (left : ℕ) (c : Config) (s : State) (n : ℕ) → 0 < left
    → is_settled_within left c s n ≡ (if is_unborn (stage_state s n) then (nat_lt 0 (parent_of c n) && is_settled_within (left - 1) c s (parent_of c n)) else is_done (stage_state s n))
settled_within zero c s n h = absurd (omega (arith, h))
settled_within (suc left) c s n h = let e : suc left - 1 ≡ left = omega arith in rw e refl
