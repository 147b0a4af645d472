-- What is known of every state within a step, once the step is counted.
use Rattle.std.specs.Prelude.{◌≡◌, ℕ, ◌<◌, ◌≤◌, ◌∷◌, length, get_or}
use Rattle.truetime.specs.Reading.{Reading}
use Rattle.rss_machine.specs.State.{State, owner_at}
use Rattle.world_laws.specs.Exchanges.{Exchanges}

-- the true moment after a step; 0 before the first
abbrev pub moment_at : State → ℕ → ℕ
moment_at s step = get_or (0 ∷ s.moments) step 0

-- messages are sound; the reading of the step holds the true moment, which never falls; and nobody begins later
pub record Known (at : Reading) (s : State) : Type 0 where
  pub first : 0 < length s.net
  pub sound : Exchanges s.net
  pub counted : 0 < s.steps
  pub earliest : at.earliest ≤ s.moment
  pub latest : s.moment ≤ at.latest
  pub long : length s.moments ≡ s.steps
  pub now : moment_at s s.steps ≡ s.moment
  pub rise : (i j : ℕ) → i ≤ j → j ≤ s.steps → moment_at s i ≤ moment_at s j
  pub begun : (o : ℕ) → (owner_at s o).dates.begun ≤ s.steps
