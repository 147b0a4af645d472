-- What the tests on lists of calls decide.
use Rattle.std.proofs.Common.{◌≡◌, sym, ℕ, zero, suc, ◌-◌, ◌<◌, List, [], ◌∷◌, ◌++◌, length, get_or, take, drop, true, not, refl, arith, subst, append_assoc, ◌⊎◌, inl, inr}
use Rattle.std.specs.Prelude.{◌≢◌, Contains, AllPairs}
use Rattle.std.specs.Bool.{Decides}
use Rattle.std.proofs.lemmas.Bool.{false≢true}
use Rattle.std.proofs.lemmas.Bool.Decides.{Decides-eqb, Decides-and, Decides-or, Decides-like, Decides-not}
use Rattle.std.proofs.lemmas.Grind.{common_steps}
use Rattle.std.proofs.lemmas.List.Quantifiers.{all_pairs_push}
use Rattle.plain_model.specs.Listed.{has_call, is_distinct_after}

-- what a list contains is its head, or in its tail
pub in_head_or_tail : {X : Type 0} (c : X) (calls : List X) (call : X) →
    (c ≡ call) ⊎ Contains calls call → Contains (c ∷ calls) call
in_head_or_tail c calls call (inl e) = (0, omega arith, e)
in_head_or_tail c calls call (inr (k, l, e)) = (suc k, omega (arith, l), e)

pub head_or_tail_of : {X : Type 0} (c : X) (calls : List X) (call : X) →
    Contains (c ∷ calls) call → (c ≡ call) ⊎ Contains calls call
head_or_tail_of c calls call (zero, l, e) = inl e
head_or_tail_of c calls call (suc k, l, e) = inr (k, omega (arith, l), e)

pub has_call-Decides : (calls : List ℕ) (call : ℕ) →
    Decides (has_call calls call) (Contains calls call)
has_call-Decides [] call = (λ t. absurd (false≢true t), λ w. absurd (omega (arith, w.1)))
has_call-Decides (c ∷ calls) call =
    Decides-like _ (in_head_or_tail c calls call) (head_or_tail_of c calls call)
    (Decides-or _ _ (Decides-eqb c call) (has_call-Decides calls call))

abbrev pub AreDistinct : List ℕ → Type 0
AreDistinct calls = AllPairs (λ a b. a ≢ b) calls

-- a call that is not in a list is none of its calls
apart : (above : List ℕ) (call : ℕ) → ¬ Contains above call → (k : ℕ) (d : ℕ) → k < length above →
    get_or above k d ≢ call
apart above call n k d l e = n (k, l, grind (arith, common_steps, l, e))

-- a call twice in a list is no distinct one
twice : (above : List ℕ) (call : ℕ) (calls : List ℕ) → Contains above call →
    ¬ AreDistinct (above ++ call ∷ calls)
twice above call calls (k, l, e) distinct =
    distinct k (length above) call l (grind (arith, common_steps, l))
    (grind (arith, common_steps, l, e))

moved_on : (above : List ℕ) (call : ℕ) (calls : List ℕ) →
    (above ++ call ∷ []) ++ calls ≡ above ++ call ∷ calls
moved_on above call calls = append_assoc above (call ∷ []) calls

pub distinct_to : (above calls : List ℕ) → AreDistinct above →
    is_distinct_after above calls ≡ true → AreDistinct (above ++ calls)
distinct_to above [] d t = subst AreDistinct (grind (arith, common_steps)) d
distinct_to above (call ∷ calls) d t =
    let parts = (Decides-and (not (has_call above call)) (is_distinct_after (above ++ call ∷ []) calls)
    (Decides-not (has_call above call) (has_call-Decides above call)) (λ x. x, λ x. x)).0 t in
    subst AreDistinct (moved_on above call calls)
    (distinct_to (above ++ call ∷ []) calls
    (all_pairs_push (λ a b. a ≢ b) above call d (apart above call parts.0)) parts.1)

pub distinct_from : (above calls : List ℕ) → AreDistinct (above ++ calls) →
    is_distinct_after above calls ≡ true
distinct_from above [] d = refl
distinct_from above (call ∷ calls) d =
    (Decides-and (not (has_call above call)) (is_distinct_after (above ++ call ∷ []) calls)
    (Decides-not (has_call above call) (has_call-Decides above call)) (λ x. x, λ x. x)).1 (
      λ w. twice above call calls w d,
      distinct_from (above ++ call ∷ []) calls
          (subst AreDistinct (sym (moved_on above call calls)) d),
    )

-- the rest of a list from a place on is all that is left of it there
pub rest_all : {X : Type 0} (xs : List X) (i : ℕ) → take (length xs - i) (drop i xs) ≡ drop i xs
rest_all xs i = grind (arith, common_steps)

pub ruleset rest_of = (rest_all)
