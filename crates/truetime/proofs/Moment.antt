-- The true moment after the first readings of a list.
use Rattle.std.proofs.Common.{◌≡◌, ℕ, zero, suc, ◌+◌, ◌<◌, ◌≤◌, ◌⊎◌, inl, inr, List, [], ◌∷◌, length, take, arith, refl}
use Rattle.std.proofs.lemmas.Grind.{common_steps}
use Rattle.std.proofs.lemmas.Bool.{cases_lt}
use Rattle.truetime.specs.Reading.{Reading, reading_at, AreConsistent}
use Rattle.truetime.specs.TrueMoment.{IsTrueMoment, true_moment}

-- a moment is at most every number that bounds what it is the greatest of
pub moment_bound : (rs : List Reading) (n m b : ℕ) → IsTrueMoment rs n m → ((i : ℕ) → i < n → (reading_at rs i).earliest ≤ b) → m ≤ b
moment_bound rs n m b t h = go t.reached
  where
    go : ((n ≡ 0) × (m ≡ 0)) ⊎ ((i : ℕ) × (i < n) × ((reading_at rs i).earliest ≡ m)) → m ≤ b
    go (inl e) = grind (arith, e)
    go (inr e) = let k = h e.0 e.1 in grind (arith, e, k)

-- under consistency the moment at a step lies in the step's reading
pub moment_inside : (rs : List Reading) (j m : ℕ) → AreConsistent rs → j < length rs → IsTrueMoment rs (j + 1) m → ((reading_at rs j).earliest ≤ m) × (m ≤ (reading_at rs j).latest)
moment_inside rs j m c l t = (t.greatest j (omega arith), moment_bound rs (j + 1) m (reading_at rs j).latest t (λ i h. c.meet i j (omega arith) l))

-- a later moment is no smaller
pub moment_rises : (rs : List Reading) (n k a b : ℕ) → n ≤ k → IsTrueMoment rs n a → IsTrueMoment rs k b → a ≤ b
moment_rises rs n k a b o s t = moment_bound rs n a b s (λ i h. t.greatest i (omega arith))

-- there is one moment
pub moment_once : (rs : List Reading) (n a b : ℕ) → IsTrueMoment rs n a → IsTrueMoment rs n b → a ≡ b
moment_once rs n a b s t = let p = moment_rises rs n n a b (omega arith) s t in let q = moment_rises rs n n b a (omega arith) t s in omega arith

-- no reading among the first ones begins after the computed moment
pub each_at_most : (rs : List Reading) (n i : ℕ) → i < n → (reading_at rs i).earliest ≤ true_moment (take n rs)
each_at_most [] n i l = grind (arith, common_steps)
each_at_most (r ∷ rs) zero i l = grind (arith, common_steps)
each_at_most (r ∷ rs) (suc n) zero l = grind (arith, common_steps)
each_at_most (r ∷ rs) (suc n) (suc i) l = let h = each_at_most rs n i (omega arith) in grind (arith, common_steps, h)

-- the computed moment is reached by one of the first readings
pub some_reaches : (rs : List Reading) (n : ℕ) → (i : ℕ) × (i < suc n) × ((reading_at rs i).earliest ≡ true_moment (take (suc n) rs))
some_reaches [] n = (0, omega arith, refl)
some_reaches (r ∷ rs) zero = (0, omega arith, grind (arith, common_steps))
some_reaches (r ∷ rs) (suc n) = go (some_reaches rs n) (cases_lt r.earliest (true_moment (take (suc n) rs)))
  where
    go : (i : ℕ) × (i < suc n) × ((reading_at rs i).earliest ≡ true_moment (take (suc n) rs)) → (r.earliest < true_moment (take (suc n) rs)) ⊎ (true_moment (take (suc n) rs) ≤ r.earliest) → (i : ℕ) × (i < suc (suc n)) × ((reading_at (r ∷ rs) i).earliest ≡ true_moment (take (suc (suc n)) (r ∷ rs)))
    go e (inl l) = (suc e.0, grind (arith, e), grind (arith, common_steps, e, l))
    go e (inr l) = (0, omega arith, grind (arith, common_steps, l))

-- the computed moment is the moment
pub true_moment_is : (rs : List Reading) (n : ℕ) → IsTrueMoment rs n (true_moment (take n rs))
true_moment_is rs zero = record { greatest = λ i l. absurd (omega arith); reached = inl (refl, refl) }
true_moment_is rs (suc n) = record { greatest = λ i l. each_at_most rs (suc n) i l; reached = inr (some_reaches rs n) }
