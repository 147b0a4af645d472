-- What stands at a place after one list was changed.
use Rattle.std.proofs.Common.{◌≡◌, ℕ, suc, zero, ◌<◌, List, [], ◌∷◌, length, get_or, set, arith, refl, ap, ◌∙◌}
use Rattle.stage_mail.specs.Lists.{DueView, no_due, list_at}

at-other : {X : Type 0} (xs : List X) (i k : ℕ) (v d : X) → (k ≡ i → ⊥) → get_or (set xs i v) k d ≡ get_or xs k d
at-other [] i k v d h = refl
at-other (x ∷ xs) zero zero v d h = absurd (h refl)
at-other (x ∷ xs) zero (suc k) v d h = refl
at-other (x ∷ xs) (suc i) zero v d h = refl
at-other (x ∷ xs) (suc i) (suc k) v d h = at-other xs i k v d (λ e. h (ap suc e))

pub at-same : {X : Type 0} (xs : List X) (i : ℕ) (v d : X) → i < length xs → get_or (set xs i v) i d ≡ v
at-same [] i v d l = absurd (omega (arith, l))
at-same (x ∷ xs) zero v d l = refl
at-same (x ∷ xs) (suc i) v d l = at-same xs i v d (omega (arith, l))

-- the other lists are as they were
pub others : (old new : List DueView) (i k : ℕ) → new ≡ set old i (list_at new i) → (k ≡ i → ⊥) → list_at new k ≡ list_at old k
others old new i k e h = ap (λ (l : List DueView). list_at l k) e ∙ at-other old i k (list_at new i) no_due h
