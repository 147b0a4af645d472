-- Places of lists.
use Rattle.std.proofs.Common.{◌≡◌, ℕ, zero, suc, ◌-◌, ◌<◌, ◌≤◌, List, [], ◌∷◌, ◌++◌, length, get_or, set, refl, ap, arith}

-- what is set to itself does not change
pub set_same : {X : Type 0} (xs : List X) (i : ℕ) (d : X) → set xs i (get_or xs i d) ≡ xs
set_same [] i d = refl
set_same (x ∷ xs) zero d = refl
set_same {X = X} (x ∷ xs) (suc i) d = ap (λ (l : List X). x ∷ l) (set_same xs i d)

-- of two values set at a place the second stays
pub set_set : {X : Type 0} (xs : List X) (i : ℕ) (a b : X) → set (set xs i a) i b ≡ set xs i b
set_set [] i a b = refl
set_set (x ∷ xs) zero a b = refl
set_set {X = X} (x ∷ xs) (suc i) a b = ap (λ (l : List X). x ∷ l) (set_set xs i a b)

-- what was set stands there
pub get_set : {X : Type 0} (xs : List X) (i : ℕ) (a d : X) → i < length xs → get_or (set xs i a) i d ≡ a
get_set [] i a d h = absurd (omega (arith, h))
get_set (x ∷ xs) zero a d h = refl
get_set (x ∷ xs) (suc i) a d h = get_set xs i a d (omega (arith, h))

-- the last element
pub get_end : {X : Type 0} (xs : List X) (x d : X) → get_or (xs ++ x ∷ []) (length xs) d ≡ x
get_end [] x d = refl
get_end (y ∷ xs) x d = get_end xs x d

pub set_end : {X : Type 0} (xs : List X) (x y : X) → set (xs ++ x ∷ []) (length xs) y ≡ xs ++ y ∷ []
set_end [] x y = refl
set_end {X = X} (z ∷ xs) x y = ap (λ (l : List X). z ∷ l) (set_end xs x y)

-- within a list the default does not count
same_default : {X : Type 0} (xs : List X) (i : ℕ) (d e : X) → i < length xs → get_or xs i d ≡ get_or xs i e
same_default [] i d e h = absurd (omega (arith, h))
same_default (x ∷ xs) zero d e h = refl
same_default (x ∷ xs) (suc i) d e h = same_default xs i d e (omega (arith, h))

-- what stands at a number, where the first one stands at place 0
pub at_number : {X : Type 0} (first : X) (xs : List X) (n : ℕ) (d e : X) → 1 ≤ n → n ≤ length xs → get_or (first ∷ xs) n d ≡ get_or xs (n - 1) e
at_number first xs zero d e h k = absurd (omega (arith, h))
at_number first xs (suc n) d e h k = let q : suc n - 1 ≡ n = omega arith in rw q (same_default xs n d e (omega (arith, k)))
