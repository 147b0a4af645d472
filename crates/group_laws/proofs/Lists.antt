-- What stands at a place of a list after a change.
use Rattle.std.proofs.Common.{◌≡◌, ℕ, zero, suc, ◌-◌, ◌<◌, ◌≤◌, ◌⊎◌, inl, inr, List, [], ◌∷◌, ◌++◌, length, get_or, Some, None, arith, refl, sym, ap, subst}
use Rattle.std.proofs.Math.ListN.{set}
use Rattle.std.specs.Prelude.{slice_get}
use Rattle.std.proofs.lemmas.Grind.{common_steps}

pub some_is : {A : Type 0} {a b : A} → Some a ≡ Some b → a ≡ b
some_is e = cc

pub none_is_not : {A : Type 0} {a : A} → None ≡ Some a → ⊥
none_is_not e = cc

pub some_is_not : {A : Type 0} {a : A} → Some a ≡ None → ⊥
some_is_not e = cc

pub get_or_set : {X : Type 0} (xs : List X) (i : ℕ) (a : X) (j : ℕ) (d : X) → ((get_or (set xs i a) j d ≡ a) × (j ≡ i) × (i < length xs)) ⊎ ((get_or (set xs i a) j d ≡ get_or xs j d) × ((j ≡ i → ⊥) ⊎ (length xs ≤ j)))
get_or_set xs i a j d = grind (arith, common_steps)

pub get_or_append : {X : Type 0} (xs ys : List X) (j : ℕ) (d : X) → ((get_or (xs ++ ys) j d ≡ get_or xs j d) × (j < length xs)) ⊎ ((get_or (xs ++ ys) j d ≡ get_or ys (j - length xs) d) × (length xs ≤ j))
get_or_append xs ys j d = grind (arith, common_steps)

-- one element more
pub got_appended : {X : Type 0} (xs : List X) (y : X) (j : ℕ) (x : X) → slice_get (xs ++ y ∷ []) j ≡ Some x → (slice_get xs j ≡ Some x) ⊎ ((j ≡ length xs) × (x ≡ y))
got_appended [] y zero x e = inr (refl, sym (some_is e))
got_appended [] y (suc j) x e = absurd (none_is_not e)
got_appended (z ∷ xs) y zero x e = inl e
got_appended (z ∷ xs) y (suc j) x e = deeper (got_appended xs y j x e)
  where
    deeper : (slice_get xs j ≡ Some x) ⊎ ((j ≡ length xs) × (x ≡ y)) → (slice_get xs j ≡ Some x) ⊎ ((suc j ≡ suc (length xs)) × (x ≡ y))
    deeper (inl f) = inl f
    deeper (inr f) = inr (ap suc f.0, f.1)

pub get_appended : {X : Type 0} (xs : List X) (y : X) (j : ℕ) (x : X) → slice_get xs j ≡ Some x → slice_get (xs ++ y ∷ []) j ≡ Some x
get_appended [] y j x e = absurd (none_is_not e)
get_appended (z ∷ xs) y zero x e = e
get_appended (z ∷ xs) y (suc j) x e = get_appended xs y j x e

pub get_last : {X : Type 0} (xs : List X) (y : X) → slice_get (xs ++ y ∷ []) (length xs) ≡ Some y
get_last [] y = refl
get_last (z ∷ xs) y = get_last xs y

pub get_last_at : {X : Type 0} (xs : List X) (y : X) (j : ℕ) → j ≡ length xs → slice_get (xs ++ y ∷ []) j ≡ Some y
get_last_at xs y j e = subst (λ (i : ℕ). slice_get (xs ++ y ∷ []) i ≡ Some y) (sym e) (get_last xs y)

-- another element at a place
pub got_set : {X : Type 0} (xs : List X) (i : ℕ) (y : X) (j : ℕ) (x : X) → slice_get (set xs i y) j ≡ Some x → ((slice_get xs j ≡ Some x) × (j ≡ i → ⊥)) ⊎ ((j ≡ i) × (x ≡ y))
got_set [] i y j x e = absurd (none_is_not e)
got_set (z ∷ xs) zero y zero x e = inr (refl, sym (some_is e))
got_set (z ∷ xs) zero y (suc j) x e = inl (e, λ f. absurd (omega (arith, f)))
got_set (z ∷ xs) (suc i) y zero x e = inl (e, λ f. absurd (omega (arith, f)))
got_set (z ∷ xs) (suc i) y (suc j) x e = deeper (got_set xs i y j x e)
  where
    deeper : ((slice_get xs j ≡ Some x) × (j ≡ i → ⊥)) ⊎ ((j ≡ i) × (x ≡ y)) → ((slice_get xs j ≡ Some x) × (suc j ≡ suc i → ⊥)) ⊎ ((suc j ≡ suc i) × (x ≡ y))
    deeper (inl f) = inl (f.0, λ g. f.1 (omega (arith, g)))
    deeper (inr f) = inr (ap suc f.0, f.1)

pub get_set_same : {X : Type 0} (xs : List X) (i : ℕ) (y : X) → i < length xs → slice_get (set xs i y) i ≡ Some y
get_set_same [] i y l = absurd (omega (arith, l))
get_set_same (z ∷ xs) zero y l = refl
get_set_same (z ∷ xs) (suc i) y l = get_set_same xs i y (omega (arith, l))

pub get_set_other : {X : Type 0} (xs : List X) (i : ℕ) (y : X) (j : ℕ) → (j ≡ i → ⊥) → slice_get (set xs i y) j ≡ slice_get xs j
get_set_other [] i y j f = refl
get_set_other (z ∷ xs) zero y zero f = absurd (f refl)
get_set_other (z ∷ xs) zero y (suc j) f = refl
get_set_other (z ∷ xs) (suc i) y zero f = refl
get_set_other (z ∷ xs) (suc i) y (suc j) f = get_set_other xs i y j (λ e. f (ap suc e))

pub get_inside : {X : Type 0} (xs : List X) (i : ℕ) (x : X) → slice_get xs i ≡ Some x → i < length xs
get_inside [] i x e = absurd (none_is_not e)
get_inside (z ∷ xs) zero x e = omega arith
get_inside (z ∷ xs) (suc i) x e = let l = get_inside xs i x e in omega (arith, l)

pub get_there : {X : Type 0} (xs : List X) (i : ℕ) → i < length xs → (x : X) × (slice_get xs i ≡ Some x)
get_there [] i l = absurd (omega (arith, l))
get_there (z ∷ xs) zero l = (z, refl)
get_there (z ∷ xs) (suc i) l = get_there xs i (omega (arith, l))
