-- A majority holds exactly the stamps up to the greatest one that a majority holds.
use Rattle.std.proofs.Common.{◌≡◌, ℕ, zero, suc, ◌<◌, ◌⊎◌, ◌↔◌, inl, inr, Bool, true, false, List, [], ◌∷◌, length, Some, refl, sym, ap, ◌∙◌, subst, arith}
use Rattle.std.specs.Prelude.{slice_get}
use Rattle.std.proofs.lemmas.Bool.{leb-true, le-leb, true≢false, cond_both}
use Rattle.std.proofs.lemmas.Option.{same_Some, none-some}
use Rattle.carstamps.specs.declared.carstamp.Carstamp.{Carstamp}
use Rattle.carstamps.specs.Stamp.{IsAtMost, stamp_le, stamp_lt, opening_stamp, greater_stamp}
use Rattle.rss_tables.specs.Round.{majority}
use Rattle.quorum_laws.specs.Majority.{count_passing, is_held, greatest_held, majority_stamp}
use Rattle.quorum_laws.proofs.Counts.{passes_at, passes_weaker, count_more, count_none, count_all}
use Rattle.quorum_laws.proofs.StampTests.{le_itself, le_chain, le_or_above, opening_le, le_at_most, at_most_le, greater_first, greater_second}

module _ {X : Type 0} (stamp_of : X → Carstamp) where
  -- whether a member holds this stamp or a greater one
  abbrev pub holds : Carstamp → X → Bool
  holds stamp x = stamp_le stamp (stamp_of x)

  -- a majority that holds a stamp holds another one, if each that holds the one holds the other
  pub held_too : (s t : Carstamp) (xs : List X) →
      ((i : ℕ) → passes_at (holds s) xs i ≡ true → passes_at (holds t) xs i ≡ true) →
      is_held stamp_of xs s ≡ true → is_held stamp_of xs t ≡ true
  held_too s t xs f e =
      let a = leb-true (majority (length xs)) (count_passing (holds s) xs) e in
      let b = count_more (holds s) (holds t) xs xs f in
      le-leb (majority (length xs)) (count_passing (holds t) xs) (omega (arith, a, b))

  -- it holds the smaller stamps
  pub held_below : (s t : Carstamp) (xs : List X) → stamp_le s t ≡ true →
      is_held stamp_of xs t ≡ true → is_held stamp_of xs s ≡ true
  held_below s t xs l e = held_too t s xs (λ i. passes_weaker (holds t) (holds s) xs i (λ x f. le_chain s t (stamp_of x) l f)) e

  -- none holds a stamp, or one of those that hold it has the least stamp of them
  pub data Least (s : Carstamp) (xs : List X) : Type 0 where
    none : ((i : ℕ) → passes_at (holds s) xs i ≡ true → ⊥) → Least s xs
    one :
        (place : ℕ) {x : X} → slice_get xs place ≡ Some x → holds s x ≡ true →
        ((i : ℕ) → passes_at (holds s) xs i ≡ true → passes_at (holds (stamp_of x)) xs i ≡ true) → Least s xs

  least_later : (s : Carstamp) (x : X) (xs : List X) → holds s x ≡ false → Least s xs →
      Least s (x ∷ xs)
  least_later s x xs f (none n) = none all
    where
      all : (i : ℕ) → passes_at (holds s) (x ∷ xs) i ≡ true → ⊥
      all zero e = true≢false (sym e ∙ f)
      all (suc i) e = n i e
  least_later s x xs f (one place {x = y} t h a) = one (suc place) t h all
    where
      all : (i : ℕ) → passes_at (holds s) (x ∷ xs) i ≡ true →
          passes_at (holds (stamp_of y)) (x ∷ xs) i ≡ true
      all zero e = absurd (true≢false (sym e ∙ f))
      all (suc i) e = a i e

  least_here : (s : Carstamp) (x : X) (xs : List X) → holds s x ≡ true →
      ((i : ℕ) → passes_at (holds s) xs i ≡ true → passes_at (holds (stamp_of x)) xs i ≡ true) →
      Least s (x ∷ xs)
  least_here s x xs h a = one 0 refl h all
    where
      all : (i : ℕ) → passes_at (holds s) (x ∷ xs) i ≡ true →
          passes_at (holds (stamp_of x)) (x ∷ xs) i ≡ true
      all zero e = le_itself (stamp_of x)
      all (suc i) e = a i e

  least_more : (s : Carstamp) (x : X) (xs : List X) → holds s x ≡ true → Least s xs →
      Least s (x ∷ xs)
  least_more s x xs h (none n) = least_here s x xs h (λ i e. absurd (n i e))
  least_more s x xs h (one place {x = y} t g a) = by_order (stamp_le (stamp_of x) (stamp_of y)) refl
    where
      by_order : (b : Bool) → stamp_le (stamp_of x) (stamp_of y) ≡ b → Least s (x ∷ xs)
      by_order true l =
          least_here s x xs h
          (λ i e. passes_weaker (holds (stamp_of y)) (holds (stamp_of x)) xs i (λ z f. le_chain (stamp_of x) (stamp_of y) (stamp_of z) l f) (a i e))
      by_order false l = one (suc place) t g all
        where
          all : (i : ℕ) → passes_at (holds s) (x ∷ xs) i ≡ true →
              passes_at (holds (stamp_of y)) (x ∷ xs) i ≡ true
          all zero e = le_or_above (stamp_of x) (stamp_of y) l
          all (suc i) e = a i e

  pub least : (s : Carstamp) (xs : List X) → Least s xs
  least s [] = none (λ i e. true≢false (sym e))
  least s (x ∷ xs) = by_test (holds s x) refl (least s xs)
    where
      by_test : (b : Bool) → holds s x ≡ b → Least s xs → Least s (x ∷ xs)
      by_test true h l = least_more s x xs h l
      by_test false h l = least_later s x xs h l

  -- the greatest is at least each stamp that a member holds and a majority too
  greatest_above : (all xs : List X) (i : ℕ) (x : X) → slice_get xs i ≡ Some x →
      is_held stamp_of all (stamp_of x) ≡ true →
      stamp_le (stamp_of x) (greatest_held stamp_of all xs) ≡ true
  greatest_above all [] i x t e = absurd (none-some x t)
  greatest_above all (y ∷ xs) zero x t e =
      cond_both (is_held stamp_of all (stamp_of y)) (greater_stamp (stamp_of y) (greatest_held stamp_of all xs)) (greatest_held stamp_of all xs)
      (λ (g : Carstamp). stamp_le (stamp_of x) g ≡ true)
      (λ f. subst (λ (z : X). stamp_le (stamp_of z) (greater_stamp (stamp_of y) (greatest_held stamp_of all xs)) ≡ true) (same_Some y x t) (greater_first (stamp_of y) (greatest_held stamp_of all xs)))
      (λ f. absurd (true≢false (sym e ∙ ap (λ (z : X). is_held stamp_of all (stamp_of z)) (sym (same_Some y x t)) ∙ f)))
  greatest_above all (y ∷ xs) (suc i) x t e =
      let rest = greatest_above all xs i x t e in
      cond_both (is_held stamp_of all (stamp_of y)) (greater_stamp (stamp_of y) (greatest_held stamp_of all xs)) (greatest_held stamp_of all xs)
      (λ (g : Carstamp). stamp_le (stamp_of x) g ≡ true)
      (λ f. le_chain (stamp_of x) (greatest_held stamp_of all xs) (greater_stamp (stamp_of y) (greatest_held stamp_of all xs)) rest (greater_second (stamp_of y) (greatest_held stamp_of all xs)))
      (λ f. rest)

  -- the greatest is held by a majority, or it is the opening one
  greatest_held_itself : (all xs : List X) →
      (is_held stamp_of all (greatest_held stamp_of all xs) ≡ true) ⊎ (greatest_held stamp_of all xs ≡ opening_stamp)
  greatest_held_itself all [] = inr refl
  greatest_held_itself all (x ∷ xs) =
      let rest = greatest_held_itself all xs in
      let Fits : Carstamp → Type 0 = λ g. (is_held stamp_of all g ≡ true) ⊎ (g ≡ opening_stamp) in
      cond_both (is_held stamp_of all (stamp_of x)) (greater_stamp (stamp_of x) (greatest_held stamp_of all xs)) (greatest_held stamp_of all xs) Fits
      (λ e. cond_both (stamp_lt (stamp_of x) (greatest_held stamp_of all xs)) (greatest_held stamp_of all xs) (stamp_of x) Fits (λ f. rest) (λ f. inl e))
      (λ e. rest)

  pub held_at_most : (xs : List X) (s : Carstamp) → is_held stamp_of xs s ≡ true →
      stamp_le s (majority_stamp stamp_of xs) ≡ true
  held_at_most xs s e = by_least (least s xs)
    where
      by_least : Least s xs → stamp_le s (majority_stamp stamp_of xs) ≡ true
      by_least (none n) =
          let m = leb-true (majority (length xs)) (count_passing (holds s) xs) e in
          absurd (omega (arith, m, count_none (holds s) xs n))
      by_least (one place {x = x} t h a) =
          le_chain s (stamp_of x) (majority_stamp stamp_of xs) h
          (greatest_above xs xs place x t (held_too s (stamp_of x) xs a e))

  -- up to the greatest one all are held, if it is held
  at_most_held : (xs : List X) (s : Carstamp) →
      (stamp_le s opening_stamp ≡ true → is_held stamp_of xs s ≡ true) →
      stamp_le s (majority_stamp stamp_of xs) ≡ true → is_held stamp_of xs s ≡ true
  at_most_held xs s o l = by_greatest (greatest_held_itself xs xs)
    where
      by_greatest :
          (is_held stamp_of xs (majority_stamp stamp_of xs) ≡ true) ⊎ (majority_stamp stamp_of xs ≡ opening_stamp) →
          is_held stamp_of xs s ≡ true
      by_greatest (inl h) = held_below s (majority_stamp stamp_of xs) xs l h
      by_greatest (inr h) = o (subst (λ (x : Carstamp). stamp_le s x ≡ true) h l)

  opening_held : (xs : List X) (s : Carstamp) → 0 < length xs → stamp_le s opening_stamp ≡ true →
      is_held stamp_of xs s ≡ true
  opening_held xs s l e =
      let all = count_all (holds s) xs (λ x. le_chain s opening_stamp (stamp_of x) e (opening_le (stamp_of x))) in
      le-leb (majority (length xs)) (count_passing (holds s) xs) (omega (arith, l, all))

  pub held_exactly : (xs : List X) (s : Carstamp) → 0 < length xs →
      (is_held stamp_of xs s ≡ true) ↔ IsAtMost s (majority_stamp stamp_of xs)
  held_exactly xs s l = (
    λ e. le_at_most s (majority_stamp stamp_of xs) (held_at_most xs s e),
    λ h. at_most_held xs s (opening_held xs s l) (at_most_le s (majority_stamp stamp_of xs) h),
  )

  pub held_exactly_above : (xs : List X) (s : Carstamp) → (IsAtMost s opening_stamp → ⊥) →
      (is_held stamp_of xs s ≡ true) ↔ IsAtMost s (majority_stamp stamp_of xs)
  held_exactly_above xs s n = (
    λ e. le_at_most s (majority_stamp stamp_of xs) (held_at_most xs s e),
    λ h. at_most_held xs s (λ e. absurd (n (le_at_most s opening_stamp e))) (at_most_le s (majority_stamp stamp_of xs) h),
  )
