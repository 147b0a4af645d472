-- Picked pairs: which they are, and that they ascend.
use Rattle.std.proofs.Common.{◌≡◌, ◌∙◌, sym, ap, ℕ, zero, suc, ◌<◌, List, [], ◌∷◌, ◌++◌, get_or, Bool, true, false, refl, arith, subst, ◌⊎◌, inl, inr}
use Rattle.std.specs.Prelude.{◌||◌, ◌&&◌, ◌==◌, Contains, AllPairs}
use Rattle.std.specs.Bool.{Decides}
use Rattle.std.proofs.lemmas.Bool.{false≢true}
use Rattle.std.proofs.lemmas.Bool.Decides.{Decides-eqb, Decides-and, Decides-or, Decides-like}
use Rattle.std.proofs.lemmas.Grind.{common_steps}
use Rattle.plain_model.specs.Listed.{has_call, has_pair, picked_row, picked}
use Rattle.plain_model.specs.Causes.{IsBelow}
use Rattle.plain_model.proofs.Lists.{in_head_or_tail, head_or_tail_of, has_call-Decides}

same_pair : (p : ℕ × ℕ) (a b : ℕ) → Decides ((p.0 == a) && (p.1 == b)) (p ≡ (a, b))
same_pair p a b =
    Decides-like _ (λ e i. (e.0 i, e.1 i)) (λ e. (ap (λ (q : ℕ × ℕ). q.0) e, ap (λ (q : ℕ × ℕ). q.1) e))
    (Decides-and _ _ (Decides-eqb p.0 a) (Decides-eqb p.1 b))

pub has_pair-Decides : (pairs : List (ℕ × ℕ)) (a b : ℕ) →
    Decides (has_pair pairs a b) (Contains pairs (a, b))
has_pair-Decides [] a b = (λ t. absurd (false≢true t), λ w. absurd (omega (arith, w.1)))
has_pair-Decides (p ∷ pairs) a b =
    Decides-like _ (in_head_or_tail p pairs (a, b)) (head_or_tail_of p pairs (a, b))
    (Decides-or _ _ (same_pair p a b) (has_pair-Decides pairs a b))

-- a row's pairs are those of its call with calls that pass
row_one : (test : ℕ → ℕ → Bool) (x y : ℕ) (calls : List ℕ) (a b : ℕ) (t e f : Bool) →
    test x y ≡ t → (x == a) ≡ e → (y == b) ≡ f →
    has_pair (picked_row test x calls) a b ≡ ((x == a) && (has_call calls b && test x b)) →
    has_pair (picked_row test x (y ∷ calls)) a b ≡
    ((x == a) && (((y == b) || has_call calls b) && test x b))
row_one test x y calls a b true e true p q r h =
    let same : y ≡ b = (Decides-eqb y b).0 r in
    let passes : test x b ≡ true = ap (test x) (sym same) ∙ p in
    grind (arith, p, q, r, h, passes)
row_one test x y calls a b true e false p q r h = grind (arith, p, q, r, h)
row_one test x y calls a b false e true p q r h =
    let same : y ≡ b = (Decides-eqb y b).0 r in
    let fails : test x b ≡ false = ap (test x) (sym same) ∙ p in
    grind (arith, p, q, r, h, fails)
row_one test x y calls a b false e false p q r h = grind (arith, p, q, r, h)

row_is : (test : ℕ → ℕ → Bool) (x : ℕ) (calls : List ℕ) (a b : ℕ) →
    has_pair (picked_row test x calls) a b ≡ ((x == a) && (has_call calls b && test x b))
row_is test x [] a b = by_test (x == a)
  where
    by_test : (e : Bool) → false ≡ (e && false)
    by_test true = refl
    by_test false = refl
row_is test x (y ∷ calls) a b =
    row_one test x y calls a b (test x y) (x == a) (y == b) refl refl refl (row_is test x calls a b)

has_pair-append : (xs ys : List (ℕ × ℕ)) (a b : ℕ) →
    has_pair (xs ++ ys) a b ≡ (has_pair xs a b || has_pair ys a b)
has_pair-append [] ys a b = refl
has_pair-append (x ∷ xs) ys a b = grind (arith, has_pair-append xs ys a b)

picked_one : (test : ℕ → ℕ → Bool) (x : ℕ) (firsts calls : List ℕ) (a b : ℕ) (e : Bool) →
    (x == a) ≡ e →
    has_pair (picked test firsts calls) a b ≡ (has_call firsts a && (has_call calls b && test a b)) →
    has_pair (picked_row test x calls) a b ≡ ((x == a) && (has_call calls b && test x b)) →
    has_pair (picked test (x ∷ firsts) calls) a b ≡
    (((x == a) || has_call firsts a) && (has_call calls b && test a b))
picked_one test x firsts calls a b true q h r =
    let same : x ≡ a = (Decides-eqb x a).0 q in
    let alike : test x b ≡ test a b = ap (λ y. test y b) same in
    let both = has_pair-append (picked_row test x calls) (picked test firsts calls) a b in
    grind (arith, q, h, r, alike, both)
picked_one test x firsts calls a b false q h r =
    let both = has_pair-append (picked_row test x calls) (picked test firsts calls) a b in
    grind (arith, q, h, r, both)

-- the picked pairs are those of the calls that pass
pub picked_is : (test : ℕ → ℕ → Bool) (firsts calls : List ℕ) (a b : ℕ) →
    has_pair (picked test firsts calls) a b ≡ (has_call firsts a && (has_call calls b && test a b))
picked_is test [] calls a b = refl
picked_is test (x ∷ firsts) calls a b =
    picked_one test x firsts calls a b (x == a) refl (picked_is test firsts calls a b)
    (row_is test x calls a b)

-- one element is so to each of a list
abbrev pub Above : {X : Type 0} → (X → X → Type 0) → X → List X → Type 0
Above {X} R x xs = (y : X) → Contains xs y → R x y

pub all_pairs_cons : {X : Type 0} (R : X → X → Type 0) (x : X) (xs : List X) →
    Above R x xs → AllPairs R xs → AllPairs R (x ∷ xs)
all_pairs_cons R x xs first rest zero zero d l m = absurd (omega (arith, l))
all_pairs_cons R x xs first rest zero (suc j) d l m =
    first (get_or xs j d) (j, omega (arith, m), grind (arith, common_steps, m))
all_pairs_cons R x xs first rest (suc i) zero d l m = absurd (omega (arith, l))
all_pairs_cons R x xs first rest (suc i) (suc j) d l m = rest i j d (omega (arith, l)) (omega (arith, m))

pub all_pairs_head : {X : Type 0} (R : X → X → Type 0) (x : X) (xs : List X) →
    AllPairs R (x ∷ xs) → Above R x xs
all_pairs_head R x xs all y (k, l, e) = subst (R x) e (all 0 (suc k) y (omega arith) (omega (arith, l)))

pub all_pairs_tail : {X : Type 0} (R : X → X → Type 0) (x : X) (xs : List X) →
    AllPairs R (x ∷ xs) → AllPairs R xs
all_pairs_tail R x xs all i j d l m = all (suc i) (suc j) d (omega (arith, l)) (omega (arith, m))

in_either : {X : Type 0} (xs ys : List X) (z : X) → Contains (xs ++ ys) z →
    Contains xs z ⊎ Contains ys z
in_either [] ys z w = inr w
in_either (x ∷ xs) ys z w = by_part (head_or_tail_of x (xs ++ ys) z w) (λ v. in_either xs ys z v)
  where
    by_part : (x ≡ z) ⊎ Contains (xs ++ ys) z → (Contains (xs ++ ys) z → Contains xs z ⊎ Contains ys z) →
        Contains (x ∷ xs) z ⊎ Contains ys z
    by_part (inl e) rest = inl (in_head_or_tail x xs z (inl e))
    by_part (inr v) rest = by_side (rest v)
      where
        by_side : Contains xs z ⊎ Contains ys z → Contains (x ∷ xs) z ⊎ Contains ys z
        by_side (inl u) = inl (in_head_or_tail x xs z (inr u))
        by_side (inr u) = inr u

all_pairs_append : {X : Type 0} (R : X → X → Type 0) (xs ys : List X) →
    AllPairs R xs → AllPairs R ys → ((x : X) → Contains xs x → Above R x ys) → AllPairs R (xs ++ ys)
all_pairs_append R [] ys p q r = q
all_pairs_append R (x ∷ xs) ys p q r =
    all_pairs_cons R x (xs ++ ys) (λ z w. by_side z (in_either xs ys z w))
    (all_pairs_append R xs ys (all_pairs_tail R x xs p) q
    (λ z w. r z (in_head_or_tail x xs z (inr w))))
  where
    by_side : (z : _) → Contains xs z ⊎ Contains ys z → R x z
    by_side z (inl w) = all_pairs_head R x xs p z w
    by_side z (inr w) = r x (in_head_or_tail x xs x (inl refl)) z w

-- calls ascend
abbrev pub Ascends : List ℕ → Type 0
Ascends calls = AllPairs (λ a b. a < b) calls

row_first : (test : ℕ → ℕ → Bool) (x : ℕ) (calls : List ℕ) (p : ℕ × ℕ) →
    Contains (picked_row test x calls) p → (x ≡ p.0) × Contains calls p.1
row_first test x calls p w =
    let has : has_pair (picked_row test x calls) p.0 p.1 ≡ true =
    (has_pair-Decides (picked_row test x calls) p.0 p.1).1 w in
    let parts =
    (Decides-and (x == p.0) (has_call calls p.1 && test x p.1) (Decides-eqb x p.0)
    (Decides-and (has_call calls p.1) (test x p.1) (has_call-Decides calls p.1) (λ t. t, λ t. t))).0
    (sym (row_is test x calls p.0 p.1) ∙ has) in
    (parts.0, parts.1.0)

picked_first : (test : ℕ → ℕ → Bool) (firsts calls : List ℕ) (p : ℕ × ℕ) →
    Contains (picked test firsts calls) p → Contains firsts p.0
picked_first test firsts calls p w =
    let has : has_pair (picked test firsts calls) p.0 p.1 ≡ true =
    (has_pair-Decides (picked test firsts calls) p.0 p.1).1 w in
    ((Decides-and (has_call firsts p.0) (has_call calls p.1 && test p.0 p.1)
    (has_call-Decides firsts p.0) (λ t. t, λ t. t)).0 (sym (picked_is test firsts calls p.0 p.1) ∙ has)).0

row_ascends : (test : ℕ → ℕ → Bool) (x : ℕ) (calls : List ℕ) → Ascends calls →
    AllPairs IsBelow (picked_row test x calls)
row_ascends test x [] up = λ i j d l m. absurd (omega (arith, m))
row_ascends test x (y ∷ calls) up =
    by_test (test x y) refl (row_ascends test x calls (all_pairs_tail (λ a b. a < b) y calls up))
  where
    first : Above IsBelow (x, y) (picked_row test x calls)
    first p w =
        let at = row_first test x calls p w in
        inr (at.0, all_pairs_head (λ a b. a < b) y calls up p.1 at.1)

    by_test : (t : Bool) → test x y ≡ t → AllPairs IsBelow (picked_row test x calls) →
        AllPairs IsBelow (picked_row test x (y ∷ calls))
    by_test true e rest =
        rw e
        (all_pairs_cons IsBelow (x, y) (picked_row test x calls) first rest)
    by_test false e rest = rw e rest

-- the picked pairs ascend where the calls do
pub picked_ascends : (test : ℕ → ℕ → Bool) (firsts calls : List ℕ) → Ascends firsts →
    Ascends calls → AllPairs IsBelow (picked test firsts calls)
picked_ascends test [] calls up on = λ i j d l m. absurd (omega (arith, m))
picked_ascends test (x ∷ firsts) calls up on =
    all_pairs_append IsBelow (picked_row test x calls) (picked test firsts calls)
    (row_ascends test x calls on)
    (picked_ascends test firsts calls (all_pairs_tail (λ a b. a < b) x firsts up) on)
    (λ p w q v.
    let first = (row_first test x calls p w).0 in
    let later = all_pairs_head (λ a b. a < b) x firsts up q.0 (picked_first test firsts calls q v) in
    inl (subst (λ n. n < q.0) first later))
