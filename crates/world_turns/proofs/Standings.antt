-- How stages stand, one after another.
use Rattle.std.proofs.Common.{◌≡◌, ℕ, zero, suc, ◌+◌, ◌-◌, ◌<◌, Bool, ◌&&◌, ◌||◌, List, [], ◌∷◌, Option, None, refl, arith}
use Rattle.std.specs.List.{list_any}
use Rattle.pipeline_lang.specs.declared.config.Config.{Config}
use Rattle.rss_tables.specs.declared.endings.StubEnd.{StubEnd}
use Rattle.rss_model.specs.declared.history.How.TheVariants.{Exited, Killed, Unavailable}
use Rattle.rss_machine.specs.Enabling.{act_enabling, stub_enabling, is_possible}
use Rattle.rss_machine.specs.Endings.{all_settled, any_possible}
use Rattle.rss_machine.specs.Standing.{state_of_stage, stub_end_of, life_state, is_hurt, is_settled}
use Rattle.rss_machine.specs.State.{State, Stage}
use Rattle.rss_machine.specs.declared.state.Life.{Life}
use Rattle.rss_machine.specs.declared.state.Life.TheVariants.{Unborn, Live, Over}

-- one more stage is looked at
pub settled_one_more : (c : Config) (s : State) (n left : ℕ) → 0 < left → all_settled c s n left ≡ (is_settled c s n && all_settled c s (n + 1) (left - 1))
settled_one_more c s n zero h = absurd (omega (arith, h))
settled_one_more c s n (suc left) h = let e : suc left - 1 ≡ left = omega arith in rw e refl

pub possible_one_more : (c : Config) (s : State) (n left : ℕ) → 0 < left → any_possible c s n left ≡ (is_possible (act_enabling c s n) || is_possible (stub_enabling s n) || any_possible c s (n + 1) (left - 1))
possible_one_more c s n zero h = absurd (omega (arith, h))
possible_one_more c s n (suc left) h = let e : suc left - 1 ≡ left = omega arith in rw e refl

-- whether a stage is hurt does not depend on its stub
hurt_alone : (l : Life) (end : Option StubEnd) → is_hurt (life_state l None) ≡ is_hurt (life_state l end)
hurt_alone Unborn end = refl
hurt_alone Live end = refl
hurt_alone (Over Exited) end = refl
hurt_alone (Over Killed) end = refl
hurt_alone (Over Unavailable) end = refl

pub hurt_anywhere : (s : State) (stages : List Stage) → list_any (λ (x : Stage). is_hurt (life_state x.life None)) stages ≡ list_any (λ (x : Stage). is_hurt (state_of_stage s x)) stages
hurt_anywhere s [] = refl
hurt_anywhere s (x ∷ stages) = rw (hurt_alone x.life (stub_end_of s x.stub), hurt_anywhere s stages) refl
