-- The entries of the greatest ballots.
use Rattle.std.proofs.Common.{◌≡◌, ℕ, zero, suc, ◌+◌, ◌-◌, ◌<◌, ◌≤◌, ◌⊎◌, inl, inr, Bool, true, false, List, [], ◌∷◌, ◌++◌, length, Option, Some, None, arith, refl, sym, ap, ◌∙◌, subst}
use Rattle.std.specs.Prelude.{slice_get, max, if◌then◌else◌}
use Rattle.std.proofs.lemmas.Bool.{cases_lt, true≢false}
use Rattle.group_tables.specs.declared.messages.Ballot.{Ballot}
use Rattle.group_tables.specs.declared.messages.Slot.{Slot}
use Rattle.group_tables.specs.Ballots.{ballot_lt, best_at, greater_slot, longest, under, taken_from, taken}
use Rattle.group_laws.specs.Order.{IsUpTo}
use Rattle.group_laws.specs.Sound.{HasUnder}
use Rattle.group_laws.proofs.Ballots.{Compared, is_below, is_same, is_above, compare, up_to, up_to_itself, up_to_same, up_to_up_to}
use Rattle.group_laws.proofs.Lists.{some_is, none_is_not, get_inside, get_there}

-- something stands there, under this ballot or a greater one
pub record HasBest (lists : List (List Slot)) (k : ℕ) (b : Ballot) : Type 0 where
  pub slot : Slot
  pub best : best_at lists k ≡ Some slot
  pub least : IsUpTo b slot.ballot

-- the greater of two entries is one of them
greater_of : (o p : Option Slot) (s : Slot) → greater_slot o p ≡ Some s → (o ≡ Some s) ⊎ (p ≡ Some s)
greater_of None p s e = inr e
greater_of (Some t) None s e = inl e
greater_of (Some t) (Some u) s e = by_test (ballot_lt t.ballot u.ballot) e
  where
    by_test : (c : Bool) → (if c then Some u else Some t) ≡ Some s → (Some t ≡ Some s) ⊎ (Some u ≡ Some s)
    by_test true f = inr f
    by_test false f = inl f

-- and not less than either
pub record IsGreater (o : Option Slot) (b : Ballot) : Type 0 where
  pub slot : Slot
  pub is : o ≡ Some slot
  pub least : IsUpTo b slot.ballot

not_below : (t u : Slot) → ballot_lt t.ballot u.ballot ≡ false → IsUpTo u.ballot t.ballot
not_below t u e = by_order (compare t.ballot u.ballot)
  where
    by_order : Compared t.ballot u.ballot → IsUpTo u.ballot t.ballot
    by_order (is_below l) = absurd (true≢false (sym l.is ∙ e))
    by_order (is_same f) = up_to_same (sym f)
    by_order (is_above l) = up_to l

greater_first : (t : Slot) (p : Option Slot) → IsGreater (greater_slot (Some t) p) t.ballot
greater_first t None = record { slot = t; is = refl; least = up_to_itself t.ballot }
greater_first t (Some u) = by_test (ballot_lt t.ballot u.ballot) refl
  where
    by_test : (c : Bool) → ballot_lt t.ballot u.ballot ≡ c → IsGreater (if c then Some u else Some t) t.ballot
    by_test true f = record { slot = u; is = refl; least = up_to record { is = f } }
    by_test false f = record { slot = t; is = refl; least = up_to_itself t.ballot }

greater_second : (o : Option Slot) (u : Slot) → IsGreater (greater_slot o (Some u)) u.ballot
greater_second None u = record { slot = u; is = refl; least = up_to_itself u.ballot }
greater_second (Some t) u = by_test (ballot_lt t.ballot u.ballot) refl
  where
    by_test : (c : Bool) → ballot_lt t.ballot u.ballot ≡ c → IsGreater (if c then Some u else Some t) u.ballot
    by_test true f = record { slot = u; is = refl; least = up_to_itself u.ballot }
    by_test false f = record { slot = t; is = refl; least = not_below t u f }

-- the best entry is one of a list
pub record IsOneOf (lists : List (List Slot)) (k : ℕ) (s : Slot) : Type 0 where
  pub place : ℕ
  pub slots : List Slot
  pub list : slice_get lists place ≡ Some slots
  pub there : slice_get slots k ≡ Some s

deeper : (l : List Slot) (lists : List (List Slot)) (k : ℕ) (s : Slot) → IsOneOf lists k s → IsOneOf (l ∷ lists) k s
deeper l lists k s o = record { place = suc o.place; slots = o.slots; list = o.list; there = o.there }

pub best_is_one : (lists : List (List Slot)) (k : ℕ) (s : Slot) → best_at lists k ≡ Some s → IsOneOf lists k s
best_is_one [] k s e = absurd (none_is_not e)
best_is_one (l ∷ lists) k s e = either (greater_of (slice_get l k) (best_at lists k) s e) (best_is_one lists k s)
  where
    either : (slice_get l k ≡ Some s) ⊎ (best_at lists k ≡ Some s) → (best_at lists k ≡ Some s → IsOneOf lists k s) → IsOneOf (l ∷ lists) k s
    either (inl f) ih = record { place = 0; slots = l; list = refl; there = f }
    either (inr f) ih = deeper l lists k s (ih f)

-- and not less than any
pub best_is_greatest : (lists : List (List Slot)) (k j : ℕ) (l : List Slot) (s : Slot) → slice_get lists j ≡ Some l → slice_get l k ≡ Some s → HasBest lists k s.ballot
best_is_greatest [] k j l s e f = absurd (none_is_not e)
best_is_greatest (x ∷ lists) k zero l s e f =
    let at : slice_get x k ≡ Some s = subst (λ (y : List Slot). slice_get y k ≡ Some s) (sym (some_is e)) f in
    let g = greater_first s (best_at lists k) in
    record { slot = g.slot; best = subst (λ (o : Option Slot). greater_slot o (best_at lists k) ≡ Some g.slot) (sym at) g.is; least = g.least }
best_is_greatest (x ∷ lists) k (suc j) l s e f = further (best_is_greatest lists k j l s e f)
  where
    further : HasBest lists k s.ballot → HasBest (x ∷ lists) k s.ballot
    further h =
        let g = greater_second (slice_get x k) h.slot in
        record { slot = g.slot; best = subst (λ (o : Option Slot). greater_slot (slice_get x k) o ≡ Some g.slot) (sym h.best) g.is; least = up_to_up_to h.least g.least }

pub best_has : (lists : List (List Slot)) (j : ℕ) (l : List Slot) (n : ℕ) (b : Ballot) → slice_get lists j ≡ Some l → HasUnder l n b → HasBest lists (n - 1) b
best_has lists j l n b e h =
    let g = best_is_greatest lists (n - 1) j l h.slot e h.there in
    record { slot = g.slot; best = g.best; least = up_to_up_to h.least g.least }

-- something stands exactly below the length of the longest list
max_cases : (a b k : ℕ) → k < max a b → (k < a) ⊎ (k < b)
max_cases a b k l = by_first (cases_lt k a)
  where
    by_first : (k < a) ⊎ (a ≤ k) → (k < a) ⊎ (k < b)
    by_first (inl m) = inl m
    by_first (inr m) = inr (omega (arith, l, m))

pub best_there : (lists : List (List Slot)) (k : ℕ) → k < longest lists → (s : Slot) × (best_at lists k ≡ Some s)
best_there [] k l = absurd (omega (arith, l))
best_there (x ∷ lists) k l = either (max_cases (length x) (longest lists) k l) (best_there lists k)
  where
    either : (k < length x) ⊎ (k < longest lists) → (k < longest lists → (s : Slot) × (best_at lists k ≡ Some s)) → (s : Slot) × (best_at (x ∷ lists) k ≡ Some s)
    either (inl m) ih =
        let t = get_there x k m in
        let g = greater_first t.0 (best_at lists k) in
        (g.slot, subst (λ (o : Option Slot). greater_slot o (best_at lists k) ≡ Some g.slot) (sym t.1) g.is)
    either (inr m) ih =
        let t = ih m in
        let g = greater_second (slice_get x k) t.0 in
        (g.slot, subst (λ (o : Option Slot). greater_slot (slice_get x k) o ≡ Some g.slot) (sym t.1) g.is)

pub best_inside : (lists : List (List Slot)) (k : ℕ) (s : Slot) → best_at lists k ≡ Some s → k < longest lists
best_inside [] k s e = absurd (none_is_not e)
best_inside (x ∷ lists) k s e = either (greater_of (slice_get x k) (best_at lists k) s e) (best_inside lists k s)
  where
    either : (slice_get x k ≡ Some s) ⊎ (best_at lists k ≡ Some s) → (best_at lists k ≡ Some s → k < longest lists) → k < max (length x) (longest lists)
    either (inl f) ih = let l = get_inside x k s f in omega (arith, l)
    either (inr f) ih = let l = ih f in omega (arith, l)

-- the taken list, place by place
under_is : (b : Ballot) (o : Option Slot) (s : Slot) → o ≡ Some s → under b o ≡ record { ballot = b; request = s.request } ∷ []
under_is b o s e = ap (λ (p : Option Slot). under b p) e

taken_length : (b : Ballot) (lists : List (List Slot)) (n left : ℕ) → n + left ≤ longest lists → length (taken_from b lists n left) ≡ left
unfolding taken_from
taken_length b lists n zero l = refl
taken_length b lists n (suc left) l =
    let t = best_there lists n (omega (arith, l)) in
    ap (λ (xs : List Slot). length (xs ++ taken_from b lists (n + 1) left)) (under_is b (best_at lists n) t.0 t.1) ∙ ap suc (taken_length b lists (n + 1) left (omega (arith, l)))

-- what stands at a place of it
pub record IsTaken (b : Ballot) (lists : List (List Slot)) (k : ℕ) (s : Slot) : Type 0 where
  pub slot : Slot
  pub best : best_at lists k ≡ Some slot
  pub is : s ≡ record { ballot = b; request = slot.request }

got_taken_from : (b : Ballot) (lists : List (List Slot)) (n left k : ℕ) (s : Slot) → n + left ≤ longest lists → slice_get (taken_from b lists n left) k ≡ Some s → IsTaken b lists (n + k) s
unfolding taken_from
got_taken_from b lists n zero k s l e = absurd (none_is_not e)
got_taken_from b lists n (suc left) k s l e =
    let t = best_there lists n (omega (arith, l)) in
    by_place t.0 t.1 k (subst (λ (xs : List Slot). slice_get (xs ++ taken_from b lists (n + 1) left) k ≡ Some s) (under_is b (best_at lists n) t.0 t.1) e)
    (λ j f. got_taken_from b lists (n + 1) left j s (omega (arith, l)) f)
  where
    by_place : (t : Slot) → best_at lists n ≡ Some t → (k : ℕ) → slice_get (record { ballot = b; request = t.request } ∷ taken_from b lists (n + 1) left) k ≡ Some s
        → ((j : ℕ) → slice_get (taken_from b lists (n + 1) left) j ≡ Some s → IsTaken b lists ((n + 1) + j) s) → IsTaken b lists (n + k) s
    by_place t f zero g ih =
        let start : n ≡ n + 0 = omega arith in
        record { slot = t; best = subst (λ (j : ℕ). best_at lists j ≡ Some t) start f; is = sym (some_is g) }
    by_place t f (suc k) g ih =
        let same : (n + 1) + k ≡ n + suc k = omega arith in
        subst (λ (j : ℕ). IsTaken b lists j s) same (ih k g)

pub length_taken : (b : Ballot) (lists : List (List Slot)) → length (taken b lists) ≡ longest lists
length_taken b lists = taken_length b lists 0 (longest lists) (omega arith)

pub got_taken : (b : Ballot) (lists : List (List Slot)) (k : ℕ) (s : Slot) → slice_get (taken b lists) k ≡ Some s → IsTaken b lists k s
got_taken b lists k s e =
    let start : 0 + k ≡ k = omega arith in
    subst (λ (j : ℕ). IsTaken b lists j s) start (got_taken_from b lists 0 (longest lists) k s (omega arith) e)

-- where a list has something, so has the taken one
pub taken_has : (b : Ballot) (lists : List (List Slot)) (n : ℕ) (c : Ballot) → IsUpTo c b → HasBest lists (n - 1) c → HasUnder (taken b lists) n c
taken_has b lists n c u h =
    let inside = best_inside lists (n - 1) h.slot h.best in
    let same = length_taken b lists in
    let t = get_there (taken b lists) (n - 1) (omega (arith, inside, same)) in
    let k = got_taken b lists (n - 1) t.0 t.1 in
    record { slot = t.0; there = t.1; least = subst (λ (s : Slot). IsUpTo c s.ballot) (sym k.is) u }
