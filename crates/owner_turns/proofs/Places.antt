-- Places of lists.
use Rattle.std.proofs.Common.{◌≡◌, ℕ, zero, suc, ◌==◌, true, false, ◌<◌, ◌≤◌, List, [], ◌∷◌, ◌++◌, ◌+◌, length, get_or, set, map, take, drop, refl, sym, ap, ◌∙◌, arith}
use Rattle.std.proofs.lemmas.List.Edits.{map_over_more}

-- an element of a list, whatever stands for one beyond its end
get_or_own : {X : Type 0} (xs : List X) (i : ℕ) (x : X) → get_or xs i x ≡ get_or xs i (get_or xs i x)
get_or_own [] i x = refl
get_or_own (a ∷ xs) zero x = refl
get_or_own (a ∷ xs) (suc i) x = get_or_own xs i x

-- one more element of a list is mapped
pub mapped_more : {X : Type 0} (f : X → X) (xs ys : List X) (i : ℕ) (x : X) → i < length xs → ys ≡ map f (take i xs) ++ drop i xs → set ys i (f (get_or ys i x)) ≡ map f (take (i + 1) xs) ++ drop (i + 1) xs
mapped_more f xs ys i x h e = map_over_more f xs ys i (get_or ys i x) h e (get_or_own ys i x)

-- beyond the end nothing is set
pub set_past : {X : Type 0} (xs : List X) (i : ℕ) (x : X) → length xs ≤ i → set xs i x ≡ xs
set_past [] i x h = refl
set_past (a ∷ xs) zero x h = absurd (omega (arith, h))
set_past {X = X} (a ∷ xs) (suc i) x h = ap (λ (l : List X). a ∷ l) (set_past xs i x (omega (arith, h)))

-- a list with an element is not empty
not_zero : (n : ℕ) → (suc n == 0) ≡ false
not_zero n = grind arith

pub filled : (n : ℕ) → (suc n == 0) ≡ true → ⊥
filled n e = no (sym (not_zero n) ∙ e)
  where
    no : false ≡ true → ⊥
    no p = cc
