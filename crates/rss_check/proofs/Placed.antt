-- The places of calls in an order.
use Rattle.std.proofs.Common.{◌≡◌, ℕ, zero, suc, ◌+◌, ◌<◌, ◌≤◌, ◌⊎◌, inl, inr, Bool, true, false, cond, List, [], length, get_or, Some, refl, sym, ap, ◌∙◌, arith, subst, nat_eq}
use Rattle.std.specs.Prelude.{◌≢◌, ◌&&◌, AllPairs, ◌↔◌, nat_lt}
use Rattle.std.proofs.lemmas.Bool.{eqb-true, eqb-false, cond-true, cond-false, cases_lt, lt-ltb}
use Rattle.std.proofs.lemmas.Grind.{common_steps}
use Rattle.std.proofs.lemmas.Option.{get_or_from_slice_get, slice_get-get_or, slice_get_within}
use Rattle.rss_model.specs.declared.history.Entry.{Entry}
use Rattle.rss_model.specs.Candidate.{StandsAt, IsCandidate}
use Rattle.order_laws.specs.Standing.{Stands, StandsBefore}
use Rattle.plain_model.specs.Listed.{has_call, is_distinct_after}
use Rattle.plain_model.specs.Orders.{is_candidate, ended_within, placeable}
use Rattle.plain_model.proofs.Lists.{has_call-Decides, distinct_from}
use Rattle.plain_model.proofs.Candidates.{candidate-Decides}
use Rattle.rss_check.specs.Places.{ArePlacesBelow, ArePlaces}

same_place : (c : List ℕ) (a b i : ℕ) → StandsAt c a i → StandsAt c b i → a ≡ b
same_place c a b i s t = let e : Some a ≡ Some b = sym s ∙ t in cc

-- at first no call has a place
pub none_placed : (c : List ℕ) (place : ℕ → ℕ) → ((call : ℕ) → place call ≡ 0) → ArePlacesBelow c 0 place
none_placed c place z = record {
  stands = λ call i e. absurd (omega (arith, z call, e));
  below = λ call i e. absurd (omega (arith, z call, e));
  placed = λ call i s l. absurd (omega (arith, l));
}

-- the place of one more call
abbrev One : List ℕ → ℕ → ℕ → ℕ → Type 0
One c n call i = StandsAt c call i × (i < n + 1)

place_one : (c : List ℕ) (n call : ℕ) (old new : ℕ → ℕ) → StandsAt c call n → old call ≡ 0 → ArePlacesBelow c n old → ((other : ℕ) → new other ≡ cond (nat_eq call other) (n + 1) (old other)) → (other i : ℕ) → (b : Bool) → nat_eq call other ≡ b → new other ≡ suc i → One c n other i
place_one c n call old new s z p e other i true t f =
    let here : i ≡ n = omega (arith, e other ∙ cond-true (nat_eq call other) _ _ t, f) in
    let same : call ≡ other = eqb-true call other t in
    (subst (λ (x : ℕ). StandsAt c x i) same (subst (λ (j : ℕ). StandsAt c call j) (sym here) s), omega (arith, here))
place_one c n call old new s z p e other i false t f =
    let before : old other ≡ suc i = sym (e other ∙ cond-false (nat_eq call other) _ _ t) ∙ f in
    (p.stands other i before, omega (arith, p.below other i before))

placed_one : (c : List ℕ) (n call : ℕ) (old new : ℕ → ℕ) → StandsAt c call n → old call ≡ 0 → ArePlacesBelow c n old → ((other : ℕ) → new other ≡ cond (nat_eq call other) (n + 1) (old other)) → (other i : ℕ) → (b : Bool) → nat_eq call other ≡ b → StandsAt c other i → i < n + 1 → new other ≡ suc i
placed_one c n call old new s z p e other i true t k l = by_place (cases_lt i n)
  where
    same : call ≡ other
    same = eqb-true call other t

    by_place : (i < n) ⊎ (n ≤ i) → new other ≡ suc i
    by_place (inl m) = absurd (omega (arith, z, ap old same, p.placed other i k m))
    by_place (inr m) = e other ∙ cond-true (nat_eq call other) _ _ t ∙ omega (arith, l, m)
placed_one c n call old new s z p e other i false t k l = by_place (cases_lt i n)
  where
    by_place : (i < n) ⊎ (n ≤ i) → new other ≡ suc i
    by_place (inl m) = e other ∙ cond-false (nat_eq call other) _ _ t ∙ p.placed other i k m
    by_place (inr m) =
        let here : i ≡ n = omega (arith, l, m) in
        absurd (eqb-false call other t (same_place c call other n s (subst (λ (j : ℕ). StandsAt c other j) here k)))

pub place_more : (c : List ℕ) (n call : ℕ) (old new : ℕ → ℕ) → StandsAt c call n → old call ≡ 0 → ArePlacesBelow c n old → ((other : ℕ) → new other ≡ cond (nat_eq call other) (n + 1) (old other)) → ArePlacesBelow c (n + 1) new
place_more c n call old new s z p e = record {
  stands = λ other i f. (place_one c n call old new s z p e other i (nat_eq call other) refl f).0;
  below = λ other i f. (place_one c n call old new s z p e other i (nat_eq call other) refl f).1;
  placed = λ other i k l. placed_one c n call old new s z p e other i (nat_eq call other) refl k l;
}

-- a call that has a place stands twice
pub place_twice : (c : List ℕ) (n call : ℕ) (place : ℕ → ℕ) → n < length c → StandsAt c call n → ArePlacesBelow c n place → 0 < place call → AllPairs (λ a b. a ≢ b) c → ⊥
place_twice c n call place inside s p l d = by_place (place call) refl
  where
    by_place : (m : ℕ) → place call ≡ m → ⊥
    by_place zero e = omega (arith, e, l)
    by_place (suc i) e = d i n call (p.below call i e) inside (get_or_from_slice_get c i call call (p.stands call i e) ∙ sym (get_or_from_slice_get c n call call s))

pub all_placed : (c : List ℕ) (place : ℕ → ℕ) → ArePlacesBelow c (length c) place → ArePlaces c place
all_placed c place p = record {
  stands = p.stands;
  placed = λ call i s. p.placed call i s (slice_get_within c i call s);
}

-- the calls of an order are distinct where each has its place
pub distinct_placed : (c : List ℕ) (place : ℕ → ℕ) → ArePlaces c place → AllPairs (λ a b. a ≢ b) c
distinct_placed c place p i j d l m e =
    let first = p.placed (get_or c i d) i (slice_get-get_or c i d (omega (arith, l, m))) in
    let second = p.placed (get_or c j d) j (slice_get-get_or c j d m) in
    omega (arith, l, first, second, ap place e)

-- whether a call is in an order, by its place
pub placed_is : (c : List ℕ) (place : ℕ → ℕ) (call : ℕ) → ArePlaces c place → nat_lt 0 (place call) ≡ has_call c call
placed_is c place call p = by_place (place call) refl (has_call c call) refl
  where
    by_place : (m : ℕ) → place call ≡ m → (b : Bool) → has_call c call ≡ b → nat_lt 0 (place call) ≡ has_call c call
    by_place zero e true h =
        let w = (has_call-Decides c call).0 h in
        absurd (omega (arith, e, p.placed call w.0 (slice_get-get_or c w.0 call w.1 ∙ ap Some w.2)))
    by_place zero e false h = rw (e, h) refl
    by_place (suc i) e true h = lt-ltb 0 (place call) (omega (arith, e)) ∙ sym h
    by_place (suc i) e false h =
        let s = p.stands call i e in
        let x = (has_call-Decides c call).1 (i, slice_get_within c i call s, get_or_from_slice_get c i call call s) in
        absurd (let f : true ≡ false = sym x ∙ h in cc)

-- an order whose calls have places is a candidate by the two other tests
pub candidate_by : (h : List Entry) (c : List ℕ) (place : ℕ → ℕ) (a b : Bool) → ArePlaces c place → a ≡ ended_within c h → b ≡ placeable h c → ((a && b) ≡ true) ↔ IsCandidate h c
candidate_by h c place a b p e f =
    let d : is_distinct_after [] c ≡ true = distinct_from [] c (distinct_placed c place p) in
    let whole : (a && b) ≡ is_candidate h c = grind (arith, common_steps, d, e, f) in
    let k = candidate-Decides h c in
    (λ t. k.0 (sym whole ∙ t), λ i. whole ∙ k.1 i)

-- two calls that stand in an order: the first before the second, or not
pub before_or_not : (c : List ℕ) (place : ℕ → ℕ) (a b : ℕ) → ArePlaces c place → Stands c a → Stands c b → StandsBefore c a b ⊎ (place b ≤ place a)
before_or_not c place a b p s t = by_place (cases_lt s.0 t.0)
  where
    by_place : (s.0 < t.0) ⊎ (t.0 ≤ s.0) → StandsBefore c a b ⊎ (place b ≤ place a)
    by_place (inl l) = inl (record { first = s.0; second = t.0; first_stands = s.1; second_stands = t.1; before = l })
    by_place (inr l) = inr (omega (arith, p.placed a s.0 s.1, p.placed b t.0 t.1, l))

-- a call stands before another at a lesser place
pub before_place : (c : List ℕ) (place : ℕ → ℕ) (a b : ℕ) → ArePlaces c place → StandsBefore c a b → place a < place b
before_place c place a b p s = omega (arith, p.placed a s.first s.first_stands, p.placed b s.second s.second_stands, s.before)

-- a call with a place stands
pub stands_by : (c : List ℕ) (place : ℕ → ℕ) (a : ℕ) → ArePlaces c place → 1 ≤ place a → Stands c a
stands_by c place a p l = by_place (place a) refl
  where
    by_place : (m : ℕ) → place a ≡ m → Stands c a
    by_place zero e = absurd (omega (arith, e, l))
    by_place (suc i) e = (i, p.stands a i e)

-- and one that stands has a place
pub place_by : (c : List ℕ) (place : ℕ → ℕ) (a : ℕ) → ArePlaces c place → Stands c a → 1 ≤ place a
place_by c place a p s = omega (arith, p.placed a s.0 s.1)
