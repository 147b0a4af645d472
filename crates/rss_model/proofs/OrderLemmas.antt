-- From the generating pairs to all of potential causality.
use Rattle.std.proofs.Common.{◌≡◌, ℕ, ◌<◌, ◌≤◌, List, arith, ◌⊎◌, inl, inr}
use Rattle.std.specs.Prelude.{◌≢◌, AllPairs}
use Rattle.std.proofs.lemmas.Bool.{cases_lt}
use Rattle.std.proofs.lemmas.Option.{slice_get_within, get_or_from_slice_get}
use Rattle.rss_model.specs.declared.history.Entry.{Entry}
use Rattle.rss_model.specs.Causality.{Generates, CausallyBefore, at_once, further}
use Rattle.rss_model.specs.Candidate.{StandsAt, InOrder}

-- a call stands above a place of an order
pub record StandsAbove (c : List ℕ) (call j : ℕ) : Type 0 where
  pub place : ℕ
  pub stands : StandsAt c call place
  pub above : place < j

-- a call does not stand at a place above another one of its own
apart : (c : List ℕ) (call i j : ℕ) → AllPairs (λ a b. a ≢ b) c → StandsAt c call i →
    StandsAt c call j → i < j → ⊥
apart c call i j d s t l =
    d i j 0 l (slice_get_within c j call t)
    (grind (arith, get_or_from_slice_get c i call 0 s, get_or_from_slice_get c j call 0 t))

-- each call stands once
pub stands_once : (c : List ℕ) (call i j : ℕ) → AllPairs (λ a b. a ≢ b) c → StandsAt c call i →
    StandsAt c call j → i ≡ j
stands_once c call i j d s t = by_place (cases_lt i j) (cases_lt j i)
  where
    by_place : (i < j) ⊎ (j ≤ i) → (j < i) ⊎ (i ≤ j) → i ≡ j
    by_place (inl l) m = absurd (apart c call i j d s t l)
    by_place (inr l) (inl m) = absurd (apart c call j i d t s m)
    by_place (inr l) (inr m) = omega (arith, l, m)

-- where a generating pair's first call always stands above the second, so it is in the closure
pub closure_above : (h : List Entry) (c : List ℕ) →
    ((a b j : ℕ) → Generates h a b → StandsAt c b j → StandsAbove c a j) → (a b j : ℕ) →
    CausallyBefore h a b → StandsAt c b j → StandsAbove c a j
closure_above h c pairs a b j (at_once g) s = pairs a b j g s
closure_above h c pairs a b j (further {b = m} p g) s =
    let last = pairs m b j g s in
    let rest = closure_above h c pairs a m last.place p last.stands in
    let above : rest.place < j = omega (arith, rest.above, last.above) in
    record { place = rest.place; stands = rest.stands; above = above }

-- then the order keeps potential causality
pub causal_in_order : (h : List Entry) (c : List ℕ) → AllPairs (λ a b. a ≢ b) c →
    ((a b j : ℕ) → Generates h a b → StandsAt c b j → StandsAbove c a j) → (a b : ℕ) →
    CausallyBefore h a b → InOrder c a b
causal_in_order h c d pairs a b p i j s t =
    let above = closure_above h c pairs a b j p t in
    let same = stands_once c a i above.place d s above.stands in
    omega (arith, same, above.above)
