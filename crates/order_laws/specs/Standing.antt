-- Where calls stand in an order.
use Rattle.std.specs.Prelude.{ℕ, ◌<◌, List}
use Rattle.rss_model.specs.Candidate.{StandsAt}

-- a call stands somewhere in an order
abbrev pub Stands : List ℕ → ℕ → Type 0
Stands c call = (i : ℕ) × StandsAt c call i

-- both calls stand in the order, and a before b
pub record StandsBefore (c : List ℕ) (a b : ℕ) : Type 0 where
  pub first : ℕ
  pub second : ℕ
  pub first_stands : StandsAt c a first
  pub second_stands : StandsAt c b second
  pub before : first < second
