-- An order of calls, given as their list.
use Rattle.std.specs.Prelude.{◌≡◌, ◌≢◌, ℕ, ◌<◌, ◌⊎◌, List, Some, slice_get, IsTrue, Contains, AllPairs}
use Rattle.rss_model.specs.declared.history.Entry.{Entry}
use Rattle.rss_model.specs.History.{has_ended}
use Rattle.rss_model.specs.Mutation.{is_mutation}

-- a call stands at a place of an order; places count from 0
abbrev pub StandsAt : List ℕ → ℕ → ℕ → Type 0
StandsAt c call i = slice_get c i ≡ Some call

-- wherever both calls stand in the order, a stands before b
abbrev pub InOrder : List ℕ → ℕ → ℕ → Type 0
InOrder c a b = (i j : ℕ) → StandsAt c a i → StandsAt c b j → i < j

-- each call once: every ended one, and besides only mutations (which have begun, or they were none)
pub record IsCandidate (h : List Entry) (c : List ℕ) : Type 0 where
  pub distinct : AllPairs (λ a b. a ≢ b) c
  pub ended : (call : ℕ) → IsTrue (has_ended h call) → Contains c call
  pub besides : (call i : ℕ) → StandsAt c call i →
      IsTrue (has_ended h call) ⊎ IsTrue (is_mutation h call)
