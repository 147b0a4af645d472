-- What lists contain.
use Rattle.std.proofs.Common.{◌≡◌, sym, ap, zero, suc, List, [], ◌∷◌, ◌++◌, refl, arith, subst, Some, None, ◌⊎◌, inl, inr}
use Rattle.std.specs.Prelude.{Option, Contains}
use Rattle.std.specs.List.{flat_map}
use Rattle.std.specs.Option.{option_to_list}
use Rattle.std.proofs.lemmas.List.Elements.{Contains-append_left, Contains-append_right, Contains-append_cases}

pub at_head : {X : Type 0} (x : X) (xs : List X) → Contains (x ∷ xs) x
at_head x xs = (0, omega arith, refl)

pub in_tail : {X : Type 0} (x y : X) (xs : List X) → Contains xs y → Contains (x ∷ xs) y
in_tail x y xs (k, l, e) = (suc k, omega (arith, l), e)

pub cons_cases : {X : Type 0} (x y : X) (xs : List X) → Contains (x ∷ xs) y → (x ≡ y) ⊎ Contains xs y
cons_cases x y xs (zero, l, e) = inl e
cons_cases x y xs (suc k, l, e) = inr (k, omega (arith, l), e)

pub nil_none : {X : Type 0} (y : X) → Contains [] y → ⊥
nil_none y (k, l, e) = omega (arith, l)

-- an element of a part of what elements give
pub flat_to : {X A : Type 0} (f : X → List A) (xs : List X) (y : A) → Contains (flat_map f xs) y →
    (x : X) × Contains xs x × Contains (f x) y
flat_to f [] y c = absurd (nil_none y c)
flat_to {X = X} {A = A} f (x ∷ xs) y c =
    by_part (Contains-append_cases (f x) (flat_map f xs) y c) (flat_to f xs y)
  where
    by_part : Contains (f x) y ⊎ Contains (flat_map f xs) y →
        (Contains (flat_map f xs) y → (z : X) × Contains xs z × Contains (f z) y) →
        (z : X) × Contains (x ∷ xs) z × Contains (f z) y
    by_part (inl d) rest = (x, at_head x xs, d)
    by_part (inr d) rest = let one = rest d in (one.0, in_tail x one.0 xs one.1, one.2)

pub flat_from : {X A : Type 0} (f : X → List A) (xs : List X) (x : X) (y : A) → Contains xs x →
    Contains (f x) y → Contains (flat_map f xs) y
flat_from f [] x y c d = absurd (nil_none x c)
flat_from {X = X} {A = A} f (z ∷ xs) x y c d =
    by_part (cons_cases z x xs c) (λ e. flat_from f xs x y e d)
  where
    by_part : (z ≡ x) ⊎ Contains xs x → (Contains xs x → Contains (flat_map f xs) y) →
        Contains (f z ++ flat_map f xs) y
    by_part (inl e) rest =
        Contains-append_left (f z) (flat_map f xs) y (subst (λ w. Contains (f w) y) (sym e) d)
    by_part (inr e) rest = Contains-append_right (f z) (flat_map f xs) y (rest e)

pub option_to : {X : Type 0} (o : Option X) (x : X) → Contains (option_to_list o) x → o ≡ Some x
option_to None x c = absurd (nil_none x c)
option_to {X = X} (Some y) x c = by_part (cons_cases y x [] c)
  where
    by_part : (y ≡ x) ⊎ Contains [] x → Some y ≡ Some x
    by_part (inl e) = ap (λ z. Some z) e
    by_part (inr d) = absurd (nil_none x d)

pub option_from : {X : Type 0} (o : Option X) (x : X) → o ≡ Some x → Contains (option_to_list o) x
option_from o x e = subst (λ p. Contains (option_to_list p) x) (sym e) (at_head x [])
