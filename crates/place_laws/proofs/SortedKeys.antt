-- Calls put in the order of their keys one after another are the same calls, and ascend.
use Rattle.std.proofs.Common.{◌≡◌, ℕ, ◌⊎◌, inl, inr, Bool, true, false, List, [], ◌∷◌, All, refl, ap, arith}
use Rattle.std.specs.Prelude.{AllPairs, IsPermutation, map, ⊤, if◌then◌else◌, ◌+◌}
use Rattle.std.proofs.lemmas.List.Elements.{All-nil, All-cons, All-head, All-tail, All-weaker}
use Rattle.std.proofs.lemmas.List.Kept.{AllPairs-cons}
use Rattle.std.proofs.lemmas.List.Sorted.{IsPermutation-refl, IsPermutation-trans, IsPermutation-cons, IsPermutation-swap}
use Rattle.rss_machine.specs.Places.{key_lt, put_keyed, sorted, numbered, placed_calls}
use Rattle.rss_machine.specs.declared.place.KeyedCall.{KeyedCall}
use Rattle.place_laws.proofs.KeyOrder.{key_trans}

abbrev pub Below : KeyedCall → KeyedCall → Type 0
Below x y = key_lt x.key y.key ≡ true

-- of two calls one is below the other
abbrev pub Compare : KeyedCall → KeyedCall → Type 0
Compare x y = Below x y ⊎ Below y x

-- each of them is below all later ones, or compares with them
abbrev pub Ascends : List KeyedCall → Type 0
Ascends [] = ⊤
Ascends (k ∷ ks) = All (Below k) ks × Ascends ks

abbrev pub AllCompare : List KeyedCall → Type 0
AllCompare [] = ⊤
AllCompare (k ∷ ks) = All (Compare k) ks × AllCompare ks

ascends_pairs : (ks : List KeyedCall) → Ascends ks → AllPairs Below ks
ascends_pairs [] h = λ i j d l m. absurd (omega (arith, m))
ascends_pairs (k ∷ ks) h = AllPairs-cons Below k ks h.0 (ascends_pairs ks h.1)

put_all : (P : KeyedCall → Type 0) (x : KeyedCall) (ks : List KeyedCall) → P x → All P ks → All P (put_keyed x ks)
put_all P x [] p h = All-cons P x [] p (All-nil P)
put_all P x (k ∷ ks) p h = by_test (key_lt x.key k.key) (put_all P x ks p)
  where
    by_test : (b : Bool) → (All P ks → All P (put_keyed x ks)) → All P (if b then x ∷ k ∷ ks else k ∷ put_keyed x ks)
    by_test true ih = All-cons P x (k ∷ ks) p h
    by_test false ih = All-cons P k (put_keyed x ks) (All-head P k ks h) (ih (All-tail P k ks h))

sorted_all : (P : KeyedCall → Type 0) (ks : List KeyedCall) → All P ks → All P (sorted ks)
sorted_all P [] h = All-nil P
sorted_all P (k ∷ ks) h = put_all P k (sorted ks) (All-head P k ks h) (sorted_all P ks (All-tail P k ks h))

put_ascends : (x : KeyedCall) (ks : List KeyedCall) → All (Compare x) ks → Ascends ks → Ascends (put_keyed x ks)
put_ascends x [] h a = (All-nil (Below x), tt)
put_ascends x (k ∷ ks) h a = by_test (key_lt x.key k.key) refl (put_ascends x ks (All-tail (Compare x) k ks h) a.1)
  where
    above : key_lt x.key k.key ≡ false → Compare x k → Below k x
    above e (inl f) = absurd (grind (arith, e, f))
    above e (inr f) = f

    by_test : (b : Bool) → key_lt x.key k.key ≡ b → Ascends (put_keyed x ks) → Ascends (if b then x ∷ k ∷ ks else k ∷ put_keyed x ks)
    by_test true e ih = (All-cons (Below x) k ks e (All-weaker (Below k) (Below x) (λ y l. key_trans x.key k.key y.key e l) ks a.0), a)
    by_test false e ih = (put_all (Below k) x ks (above e (All-head (Compare x) k ks h)) a.0, ih)

sorted_ascends : (ks : List KeyedCall) → AllCompare ks → Ascends (sorted ks)
sorted_ascends [] h = tt
sorted_ascends (k ∷ ks) h = put_ascends k (sorted ks) (sorted_all (Compare k) ks h.0) (sorted_ascends ks h.1)

pub sorted_pairs : (ks : List KeyedCall) → AllCompare ks → AllPairs Below (sorted ks)
sorted_pairs ks h = ascends_pairs (sorted ks) (sorted_ascends ks h)

swap_first : (x y : KeyedCall) (ks : List KeyedCall) → IsPermutation (x ∷ y ∷ ks) (y ∷ x ∷ ks)
swap_first x y ks = IsPermutation-swap (x ∷ y ∷ ks) (y ∷ x ∷ ks) 0 1 (omega arith) (omega arith) refl

put_same : (x : KeyedCall) (ks : List KeyedCall) → IsPermutation (x ∷ ks) (put_keyed x ks)
put_same x [] = IsPermutation-refl (x ∷ [])
put_same x (k ∷ ks) = by_test (key_lt x.key k.key) (put_same x ks)
  where
    by_test : (b : Bool) → IsPermutation (x ∷ ks) (put_keyed x ks) → IsPermutation (x ∷ k ∷ ks) (if b then x ∷ k ∷ ks else k ∷ put_keyed x ks)
    by_test true ih = IsPermutation-refl (x ∷ k ∷ ks)
    by_test false ih = IsPermutation-trans (x ∷ k ∷ ks) (k ∷ x ∷ ks) (k ∷ put_keyed x ks) (swap_first x k ks) (IsPermutation-cons k (x ∷ ks) (put_keyed x ks) ih)

pub sorted_same : (ks : List KeyedCall) → IsPermutation ks (sorted ks)
sorted_same [] = IsPermutation-refl []
sorted_same (k ∷ ks) = IsPermutation-trans (k ∷ ks) (k ∷ sorted ks) (put_keyed k (sorted ks)) (IsPermutation-cons k ks (sorted ks) (sorted_same ks)) (put_same k (sorted ks))

-- the placed calls are those of the sorted ones
pub placed_are : (ks : List KeyedCall) (place : ℕ) → placed_calls (numbered place ks) ≡ map (λ (k : KeyedCall). k.call) ks
placed_are [] place = refl
placed_are (k ∷ ks) place = ap (λ (calls : List ℕ). k.call ∷ calls) (placed_are ks (place + 1))
