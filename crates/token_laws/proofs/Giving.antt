-- A stage that gives to a pipe: what its walk has behind it and the state say the same of the pipe.
use Rattle.std.proofs.Common.{◌≡◌, ℕ, ◌+◌, ◌<◌, ◌≤◌, false, length, get_or, None, ap, ◌∙◌, arith}
use Rattle.pipeline_lang.specs.declared.config.Config.{Config}
use Rattle.rss_model.specs.Scripts.{giver_of}
use Rattle.rss_model.specs.Walk.{Walk, next_given}
use Rattle.rss_model.specs.Walked.{Walked}
use Rattle.rss_machine.specs.Standing.{stage_state, is_done}
use Rattle.rss_machine.specs.State.{State, stage_at, pipe_at}
use Rattle.rss_machine.specs.declared.state.Life.TheVariants as life
use Rattle.world_laws.specs.Apart.{SpawnsApart, PipesApart}
use Rattle.token_laws.specs.Kept.{WalkKept}
use Rattle.token_laws.specs.Tied.{given_to, Tied}
use Rattle.token_laws.proofs.Between.{IsBetween, between, walked_now}
use Rattle.token_laws.proofs.Kept.{kept}
use Rattle.token_laws.proofs.States.{live_state}

-- a stage that is live, with nothing under way
pub record IsMaking (s : State) (n : ℕ) : Type 0 where
  pub numbered : 0 < n
  pub live : (stage_at s n).life ≡ life.Live
  pub nobody : (stage_at s n).owner ≡ None

-- what is known of it, of its walk and of the pipes that it gives to
pub record IsGiving (c : Config) (s : State) (n : ℕ) (walk : ℕ → Walk) : Type 0 where
  pub between : IsBetween s n (walk n)
  pub walked : Walked c s.history n (length s.history) (walk n)
  pub room : WalkKept c s.history n (length s.history) (walk n)
  pub few : (p : ℕ) → p ≤ length c.pipe_ends → p < 256
  pub given : (p : ℕ) → giver_of c p ≡ n → given_to c walk p ≡ get_or (walk n).given p 0
  pub done : (p : ℕ) → giver_of c p ≡ n → is_done (stage_state s (giver_of c p)) ≡ false
  pub next : (p : ℕ) → 0 < p → giver_of c p ≡ n → (pipe_at s p).next ≡ next_given (walk n) p

module _ (c : Config) (spawns : SpawnsApart c) (pipes : PipesApart c) (s : State) (n : ℕ) (a : IsMaking s n) (h : Tied c s) where
  walked : Walked c s.history n (length s.history) (h.walk n)
  walked = walked_now c s n (h.walk n) (h.walking n)

  few : (p : ℕ) → p ≤ length c.pipe_ends → p < 256
  few p l = let k = pipes.few in omega (arith, k, l)

  given : (p : ℕ) → giver_of c p ≡ n → given_to c h.walk p ≡ get_or (h.walk n).given p 0
  given p e = ap (λ (g : ℕ). get_or (h.walk g).given p 0) e

  done : (p : ℕ) → giver_of c p ≡ n → is_done (stage_state s (giver_of c p)) ≡ false
  done p e = ap (λ (g : ℕ). is_done (stage_state s g)) e ∙ (live_state s n a.live).0

  pub giving : IsGiving c s n h.walk
  giving = record {
    between = between c s n (h.walk n) a.live a.nobody (h.stands n a.numbered);
    walked = walked;
    room = kept c s.history n spawns pipes a.numbered (length s.history) (h.walk n) walked;
    few = few;
    given = given;
    done = done;
    next = λ p z e. (h.pipes p z).next (done p e) ∙ ap (λ (i : ℕ). i + 1) (given p e);
  }
