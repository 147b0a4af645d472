-- The places of calls in an order, counted from 1.
use Rattle.std.specs.Prelude.{ℕ, suc, ◌≡◌, ◌<◌, List, Option, Some, None, nat_eq}
use Rattle.indexmap.specs.IndexMap.{IndexMap, get}
use Rattle.rss_model.specs.Candidate.{StandsAt}

-- the number that is kept, 0 where none is
abbrev pub number_or_zero : Option ℕ → ℕ
number_or_zero None = 0
number_or_zero (Some n) = n

-- the number that is kept of a call or a stage, 0 where none is
abbrev pub kept : {S : Type 0} → IndexMap ℕ ℕ S → ℕ → ℕ
kept map n = number_or_zero (get nat_eq map n)

-- what is kept of each call is its place among the first n of an order; 0 where it has none
pub record ArePlacesBelow (c : List ℕ) (n : ℕ) (place : ℕ → ℕ) : Type 0 where
  pub stands : (call i : ℕ) → place call ≡ suc i → StandsAt c call i
  pub below : (call i : ℕ) → place call ≡ suc i → i < n
  pub placed : (call i : ℕ) → StandsAt c call i → i < n → place call ≡ suc i

-- its place in an order
pub record ArePlaces (c : List ℕ) (place : ℕ → ℕ) : Type 0 where
  pub stands : (call i : ℕ) → place call ≡ suc i → StandsAt c call i
  pub placed : (call i : ℕ) → StandsAt c call i → place call ≡ suc i
