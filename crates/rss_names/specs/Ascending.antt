-- Lists of pairs of a time and a call that ascend, as they are searched by halves.
use Rattle.std.specs.Prelude.{◌≡◌, ℕ, ◌<◌, ◌&&◌, ◌||◌, ◌==◌, Bool, true, false, List, length, get_or, nat_lt, nat_le, Option, Some, None}

-- whether a pair is at most another: by time, and then by call
abbrev pub pair_le : ℕ × ℕ → ℕ × ℕ → Bool
pair_le a b = nat_lt a.0 b.0 || (a.0 == b.0 && nat_le a.1 b.1)

-- the pair at a place
abbrev pub pair_at : List (ℕ × ℕ) → ℕ → ℕ × ℕ
pair_at pairs at = get_or pairs at (0, 0)

-- no pair is above a later one
pub record Ascend (pairs : List (ℕ × ℕ)) : Type 0 where
  pub in_order : (i j : ℕ) → i < j → j < length pairs → pair_le (pair_at pairs i) (pair_at pairs j) ≡ true

-- a place is the last one whose pair is at most a bound
pub record IsLastAtMost (pairs : List (ℕ × ℕ)) (bound : ℕ × ℕ) (at : ℕ) : Type 0 where
  pub within : at < length pairs
  pub at_most : pair_le (pair_at pairs at) bound ≡ true
  pub last : (j : ℕ) → at < j → j < length pairs → pair_le (pair_at pairs j) bound ≡ false

-- each pair is above a bound
pub record AreAbove (pairs : List (ℕ × ℕ)) (bound : ℕ × ℕ) : Type 0 where
  pub above : (j : ℕ) → j < length pairs → pair_le (pair_at pairs j) bound ≡ false

-- a place is the last one at most the bound, and there is none only where each pair is above it
abbrev pub Finds : List (ℕ × ℕ) → ℕ × ℕ → Option ℕ → Type 0
Finds pairs bound None = AreAbove pairs bound
Finds pairs bound (Some at) = IsLastAtMost pairs bound at
