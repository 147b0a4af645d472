-- Where the members of a list stand among those that pass a test.
use Rattle.std.proofs.Common.{◌≡◌, ℕ, zero, suc, Bool, true, false, List, [], ◌∷◌, Some, refl, sym, ap, ◌∙◌, subst}
use Rattle.std.specs.Prelude.{if◌then◌else◌, slice_get}
use Rattle.std.specs.List.{filter}
use Rattle.std.proofs.lemmas.Option.{none-some, same_Some}

module _ (test : ℕ → Bool) where
  -- how many of the first members pass
  abbrev pub rank : List ℕ → ℕ → ℕ
  rank xs zero = 0
  rank [] (suc i) = 0
  rank (x ∷ xs) (suc i) = if test x then suc (rank xs i) else rank xs i

  -- one that passes stands after those before it that pass
  pub passing_stands : (xs : List ℕ) (i x : ℕ) → slice_get xs i ≡ Some x → test x ≡ true →
      slice_get (filter test xs) (rank xs i) ≡ Some x
  passing_stands [] i x s e = absurd (none-some x s)
  passing_stands (y ∷ xs) zero x s e =
      subst (λ (t : Bool). slice_get (if t then y ∷ filter test xs else filter test xs) 0 ≡ Some x) (sym (ap test (same_Some y x s) ∙ e)) s
  passing_stands (y ∷ xs) (suc i) x s e = by_test (test y) refl (passing_stands xs i x s e)
    where
      by_test : (t : Bool) → test y ≡ t → slice_get (filter test xs) (rank xs i) ≡ Some x →
          slice_get (if t then y ∷ filter test xs else filter test xs) (if t then suc (rank xs i) else rank xs i) ≡ Some x
      by_test true f r = r
      by_test false f r = r

  pub rank_passing : (xs : List ℕ) (i x : ℕ) → slice_get xs i ≡ Some x → test x ≡ true →
      rank xs (suc i) ≡ suc (rank xs i)
  rank_passing [] i x s e = absurd (none-some x s)
  rank_passing (y ∷ xs) zero x s e = subst (λ (t : Bool). (if t then suc (rank xs 0) else rank xs 0) ≡ 1) (sym (ap test (same_Some y x s) ∙ e)) refl
  rank_passing (y ∷ xs) (suc i) x s e = by_test (test y) (rank_passing xs i x s e)
    where
      by_test : (t : Bool) → rank xs (suc i) ≡ suc (rank xs i) →
          (if t then suc (rank xs (suc i)) else rank xs (suc i)) ≡ suc (if t then suc (rank xs i) else rank xs i)
      by_test true r = ap suc r
      by_test false r = r

  pub rank_failing : (xs : List ℕ) (i x : ℕ) → slice_get xs i ≡ Some x → test x ≡ false →
      rank xs (suc i) ≡ rank xs i
  rank_failing [] i x s e = absurd (none-some x s)
  rank_failing (y ∷ xs) zero x s e = subst (λ (t : Bool). (if t then suc (rank xs 0) else rank xs 0) ≡ 0) (sym (ap test (same_Some y x s) ∙ e)) refl
  rank_failing (y ∷ xs) (suc i) x s e = by_test (test y) (rank_failing xs i x s e)
    where
      by_test : (t : Bool) → rank xs (suc i) ≡ rank xs i →
          (if t then suc (rank xs (suc i)) else rank xs (suc i)) ≡ (if t then suc (rank xs i) else rank xs i)
      by_test true r = ap suc r
      by_test false r = r

  -- where one that passes stood
  pub record Stood (xs : List ℕ) (x k : ℕ) : Type 0 where
    pub place : ℕ
    pub stands : slice_get xs place ≡ Some x
    pub passes : test x ≡ true
    pub ranked : rank xs place ≡ k

  pub stood : (xs : List ℕ) (k x : ℕ) → slice_get (filter test xs) k ≡ Some x → Stood xs x k
  stood [] k x s = absurd (none-some x s)
  stood (y ∷ xs) k x s = by_test (test y) refl k s (λ k s. stood xs k x s)
    where
      later : (k : ℕ) → (t : Bool) → test y ≡ t → (r : Stood xs x k) →
          Stood (y ∷ xs) x (if t then suc k else k)
      later k t e r =
          let ranked : rank (y ∷ xs) (suc r.place) ≡ (if t then suc k else k) =
          subst (λ (u : Bool). (if u then suc (rank xs r.place) else rank xs r.place) ≡ (if t then suc k else k)) (sym e)
          (ap (λ (n : ℕ). if t then suc n else n) r.ranked) in
          record { place = suc r.place; stands = r.stands; passes = r.passes; ranked = ranked }

      by_test : (t : Bool) → test y ≡ t → (k : ℕ) →
          slice_get (if t then y ∷ filter test xs else filter test xs) k ≡ Some x →
          ((k : ℕ) → slice_get (filter test xs) k ≡ Some x → Stood xs x k) → Stood (y ∷ xs) x k
      by_test true e zero s r = record { place = 0; stands = s; passes = ap test (sym (same_Some y x s)) ∙ e; ranked = refl }
      by_test true e (suc k) s r = later k true e (r k s)
      by_test false e k s r = later k false e (r k s)
