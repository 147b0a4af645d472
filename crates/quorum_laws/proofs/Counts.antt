-- Counts of the members that pass tests, and where two majorities meet.
use Rattle.std.proofs.Common.{◌≡◌, ℕ, zero, suc, ◌+◌, ◌<◌, ◌≤◌, Bool, true, false, List, [], ◌∷◌, length, get_or, Some, refl, sym, ap, ◌∙◌, arith}
use Rattle.std.specs.Prelude.{if◌then◌else◌, slice_get, IsTrue}
use Rattle.std.proofs.lemmas.Bool.{leb-true, true≢false, cond_both}
use Rattle.rss_tables.specs.Round.{majority}
use Rattle.quorum_laws.specs.Majority.{count_passing, majority_passes, HaveCommonPlace}

-- whether the member at a place passes a test; past the end there is none
abbrev pub passes_at : {X : Type 0} → (X → Bool) → List X → ℕ → Bool
passes_at test [] i = false
passes_at test (x ∷ xs) zero = test x
passes_at test (x ∷ xs) (suc i) = passes_at test xs i

-- the member that passes
pub passing : {X : Type 0} (test : X → Bool) (xs : List X) (i : ℕ) → passes_at test xs i ≡ true →
    (x : X) × (slice_get xs i ≡ Some x) × (test x ≡ true)
passing test [] i e = absurd (true≢false (sym e))
passing test (x ∷ xs) zero e = (x, refl, e)
passing test (x ∷ xs) (suc i) e = passing test xs i e

pub passes_inside : {X : Type 0} (test : X → Bool) (xs : List X) (i : ℕ) →
    passes_at test xs i ≡ true → i < length xs
passes_inside test [] i e = absurd (true≢false (sym e))
passes_inside test (x ∷ xs) zero e = omega arith
passes_inside test (x ∷ xs) (suc i) e = let l = passes_inside test xs i e in omega (arith, l)

-- where no place passes, none is counted
pub count_none : {X : Type 0} (test : X → Bool) (xs : List X) →
    ((i : ℕ) → passes_at test xs i ≡ true → ⊥) → count_passing test xs ≡ 0
count_none test [] n = refl
count_none test (x ∷ xs) n = by_test (test x) refl (count_none test xs (λ i. n (suc i)))
  where
    by_test : (t : Bool) → test x ≡ t → count_passing test xs ≡ 0 →
        (if t then suc (count_passing test xs) else count_passing test xs) ≡ 0
    by_test true e r = absurd (n 0 e)
    by_test false e r = r

-- where each place that passes the one test passes the other, no fewer pass the other
pub count_more : {X Y : Type 0} (p : X → Bool) (q : Y → Bool) (xs : List X) (ys : List Y) →
    ((i : ℕ) → passes_at p xs i ≡ true → passes_at q ys i ≡ true) →
    count_passing p xs ≤ count_passing q ys
count_more p q [] ys f = omega arith
count_more p q (x ∷ xs) [] f =
    let none = count_none p (x ∷ xs) (λ i e. true≢false (sym (f i e))) in omega (arith, none)
count_more p q (x ∷ xs) (y ∷ ys) f = by_tests (p x) (q y) refl refl (count_more p q xs ys (λ i. f (suc i)))
  where
    by_tests : (a b : Bool) → p x ≡ a → q y ≡ b → count_passing p xs ≤ count_passing q ys →
        (if a then suc (count_passing p xs) else count_passing p xs) ≤ (if b then suc (count_passing q ys) else count_passing q ys)
    by_tests true true e g m = omega (arith, m)
    by_tests true false e g m = absurd (true≢false (sym (f 0 e) ∙ g))
    by_tests false true e g m = omega (arith, m)
    by_tests false false e g m = m

-- where all that pass stand among the first places, no more pass than these
pub count_bounded : {X : Type 0} (test : X → Bool) (n : ℕ) (xs : List X) →
    ((i : ℕ) → passes_at test xs i ≡ true → i < n) → count_passing test xs ≤ n
count_bounded test zero xs f = let none = count_none test xs (λ i e. omega (arith, f i e)) in omega (arith, none)
count_bounded test (suc n) [] f = omega arith
count_bounded test (suc n) (x ∷ xs) f =
    let rest = count_bounded test n xs (λ i e. omega (arith, f (suc i) e)) in
    cond_both (test x) (suc (count_passing test xs)) (count_passing test xs) (λ (k : ℕ). k ≤ suc n) (λ e. omega (arith, rest)) (λ e. omega (arith, rest))

-- where all pass, all are counted
pub count_all : {X : Type 0} (test : X → Bool) (xs : List X) → ((x : X) → test x ≡ true) →
    count_passing test xs ≡ length xs
count_all test [] f = refl
count_all test (x ∷ xs) f =
    let rest = count_all test xs f in
    cond_both (test x) (suc (count_passing test xs)) (count_passing test xs) (λ (k : ℕ). k ≡ suc (length xs)) (λ e. ap suc rest) (λ e. absurd (true≢false (sym (f x) ∙ e)))

-- what passes a test passes a weaker one
pub passes_weaker : {X : Type 0} (p q : X → Bool) (xs : List X) (i : ℕ) →
    ((x : X) → p x ≡ true → q x ≡ true) → passes_at p xs i ≡ true → passes_at q xs i ≡ true
passes_weaker p q [] i f e = e
passes_weaker p q (x ∷ xs) zero f e = f x e
passes_weaker p q (x ∷ xs) (suc i) f e = passes_weaker p q xs i f e

-- the member at a place, read with a default
pub passes_read : {X : Type 0} (test : X → Bool) (xs : List X) (i : ℕ) (d : X) →
    passes_at test xs i ≡ true → test (get_or xs i d) ≡ true
passes_read test [] i d e = absurd (true≢false (sym e))
passes_read test (x ∷ xs) zero d e = e
passes_read test (x ∷ xs) (suc i) d e = passes_read test xs i d e

pub read_passes : {X : Type 0} (test : X → Bool) (xs : List X) (i : ℕ) (d : X) → i < length xs →
    test (get_or xs i d) ≡ true → passes_at test xs i ≡ true
read_passes test [] i d l e = absurd (omega (arith, l))
read_passes test (x ∷ xs) zero d l e = e
read_passes test (x ∷ xs) (suc i) d l e = read_passes test xs i d (omega (arith, l)) e

-- a place at which both pass
abbrev pub Meets : {X Y : Type 0} → (X → Bool) → (Y → Bool) → List X → List Y → Type 0
Meets p q xs ys = (i : ℕ) × (passes_at p xs i ≡ true) × (passes_at q ys i ≡ true)

-- where together more pass than there are places, two meet
pub counts_meet : {X Y : Type 0} (p : X → Bool) (q : Y → Bool) (n : ℕ) (xs : List X) (ys : List Y) →
    ((i : ℕ) → passes_at p xs i ≡ true → i < n) → ((i : ℕ) → passes_at q ys i ≡ true → i < n) →
    n < count_passing p xs + count_passing q ys → Meets p q xs ys
counts_meet p q zero xs ys f g l =
    absurd (omega (arith, l, count_none p xs (λ i e. omega (arith, f i e)), count_none q ys (λ i e. omega (arith, g i e))))
counts_meet p q (suc n) [] ys f g l = absurd (omega (arith, l, count_bounded q (suc n) ys g))
counts_meet p q (suc n) (x ∷ xs) [] f g l = absurd (omega (arith, l, count_bounded p (suc n) (x ∷ xs) f))
counts_meet p q (suc n) (x ∷ xs) (y ∷ ys) f g l =
    by_tests (p x) (q y) refl refl l (counts_meet p q n xs ys (λ i e. omega (arith, f (suc i) e)) (λ i e. omega (arith, g (suc i) e)))
  where
    by_tests : (a b : Bool) → p x ≡ a → q y ≡ b →
        suc n < (if a then suc (count_passing p xs) else count_passing p xs) + (if b then suc (count_passing q ys) else count_passing q ys) →
        (n < count_passing p xs + count_passing q ys → Meets p q xs ys) →
        Meets p q (x ∷ xs) (y ∷ ys)
    by_tests true true e h m later = (0, e, h)
    by_tests true false e h m later = let r = later (omega (arith, m)) in (suc r.0, r.1, r.2)
    by_tests false true e h m later = let r = later (omega (arith, m)) in (suc r.0, r.1, r.2)
    by_tests false false e h m later = let r = later (omega (arith, m)) in (suc r.0, r.1, r.2)

-- two majorities of as many meet
pub majorities_have_common_place :
    {X Y : Type 0} (xs : List X) (ys : List Y) (p : X → Bool) (q : Y → Bool) →
    length xs ≡ length ys → IsTrue (majority_passes p xs) → IsTrue (majority_passes q ys) →
    HaveCommonPlace p q xs ys
majorities_have_common_place xs ys p q l e f =
    let a = leb-true (majority (length xs)) (count_passing p xs) e in
    let b = leb-true (majority (length ys)) (count_passing q ys) f in
    let meet = counts_meet p q (length xs) xs ys (passes_inside p xs) (λ i e. omega (arith, l, passes_inside q ys i e)) (omega (arith, a, b, l)) in
    let first = passing p xs meet.0 meet.1 in
    let second = passing q ys meet.0 meet.2 in
    record {
      place = meet.0;
      first = first.0;
      second = second.0;
      first_there = first.1;
      second_there = second.1;
      first_passes = first.2;
      second_passes = second.2;
    }

-- where fewer pass than there are places, one of these does not pass
pub one_fails : {X : Type 0} (p : X → Bool) (n : ℕ) (xs : List X) → count_passing p xs < n →
    (i : ℕ) × (i < n) × (passes_at p xs i ≡ false)
one_fails p zero xs l = absurd (omega (arith, l))
one_fails p (suc n) [] l = (0, omega arith, refl)
one_fails p (suc n) (x ∷ xs) l = by_test (p x) refl l (one_fails p n xs)
  where
    by_test : (a : Bool) → p x ≡ a →
        (if a then suc (count_passing p xs) else count_passing p xs) < suc n →
        (count_passing p xs < n → (i : ℕ) × (i < n) × (passes_at p xs i ≡ false)) →
        (i : ℕ) × (i < suc n) × (passes_at p (x ∷ xs) i ≡ false)
    by_test true e m later = let r = later (omega (arith, m)) in (suc r.0, omega (arith, r.1), r.2)
    by_test false e m later = (0, omega arith, e)

-- where together fewer pass than there are places, one of these passes neither
pub none_passes : {X Y : Type 0} (p : X → Bool) (q : Y → Bool) (n : ℕ) (xs : List X) (ys : List Y) →
    count_passing p xs + count_passing q ys < n →
    (i : ℕ) × (i < n) × (passes_at p xs i ≡ false) × (passes_at q ys i ≡ false)
none_passes p q zero xs ys l = absurd (omega (arith, l))
none_passes p q (suc n) [] [] l = (0, omega arith, refl, refl)
none_passes p q (suc n) [] (y ∷ ys) l = let r = one_fails q (suc n) (y ∷ ys) (omega (arith, l)) in (r.0, r.1, refl, r.2)
none_passes p q (suc n) (x ∷ xs) [] l = let r = one_fails p (suc n) (x ∷ xs) (omega (arith, l)) in (r.0, r.1, r.2, refl)
none_passes p q (suc n) (x ∷ xs) (y ∷ ys) l = by_tests (p x) (q y) refl refl l (none_passes p q n xs ys)
  where
    by_tests : (a b : Bool) → p x ≡ a → q y ≡ b →
        (if a then suc (count_passing p xs) else count_passing p xs) + (if b then suc (count_passing q ys) else count_passing q ys) < suc n →
        (count_passing p xs + count_passing q ys < n → (i : ℕ) × (i < n) × (passes_at p xs i ≡ false) × (passes_at q ys i ≡ false)) →
        (i : ℕ) × (i < suc n) × (passes_at p (x ∷ xs) i ≡ false) × (passes_at q (y ∷ ys) i ≡ false)
    by_tests false false e f m later = (0, omega arith, e, f)
    by_tests true true e f m later = let r = later (omega (arith, m)) in (suc r.0, omega (arith, r.1), r.2, r.3)
    by_tests true false e f m later = let r = later (omega (arith, m)) in (suc r.0, omega (arith, r.1), r.2, r.3)
    by_tests false true e f m later = let r = later (omega (arith, m)) in (suc r.0, omega (arith, r.1), r.2, r.3)
