-- Calls sorted by keys stand as their keys.
use Rattle.std.proofs.Common.{◌≡◌, ℕ, zero, suc, ◌<◌, ◌⊎◌, ◌↔◌, inl, inr, List, [], ◌∷◌, length, get_or, arith, refl, sym, ap, ◌∙◌, subst}
use Rattle.std.specs.Prelude.{◌≢◌, AllPairs, Contains, map, Some, slice_get, option_map}
use Rattle.std.proofs.lemmas.Bool.{cases_order}
use Rattle.std.proofs.lemmas.Option.{slice_get_within, slice_get-get_or, slice_get-map, same_Some}
use Rattle.std.proofs.lemmas.List.{length-map, get_or-map}
use Rattle.std.proofs.lemmas.List.Elements.{Contains-get_or}
use Rattle.std.proofs.lemmas.List.Sorted.{IsPermutation-sym, IsPermutation-map, Contains-permutation}
use Rattle.rss_model.specs.Candidate.{StandsAt}
use Rattle.order_laws.specs.Standing.{StandsBefore}
use Rattle.order_laws.specs.Sorted.{AreSorted, IsAsymmetric}

pub get_or-default : {X : Type 0} (xs : List X) (i : ℕ) (d e : X) → i < length xs →
    get_or xs i d ≡ get_or xs i e
get_or-default [] i d e l = absurd (omega (arith, l))
get_or-default (x ∷ xs) zero d e l = refl
get_or-default (x ∷ xs) (suc i) d e l = get_or-default xs i d e (omega (arith, l))

pub some_of : {X : Type 0} (xs : List X) (i : ℕ) → i < length xs → X
some_of [] i l = absurd (omega (arith, l))
some_of (x ∷ xs) i l = x

module _ {X : Type 0} (call : X → ℕ) (Below : X → X → Type 0) (things order : List X) (sorted : AreSorted call Below things order) where
  -- the order holds exactly the calls of the things
  pub same_calls : (c : ℕ) → Contains (map call order) c ↔ Contains (map call things) c
  same_calls c =
      let p = IsPermutation-map call things order sorted.all in (
        λ m. Contains-permutation (map call order) (map call things) c (IsPermutation-sym (map call things) (map call order) p) m,
        λ m. Contains-permutation (map call things) (map call order) c p m,
      )

  -- what stands at a place
  pub at_place : (x : X) (c i : ℕ) → StandsAt (map call order) c i →
      (i < length order) × (call (get_or order i x) ≡ c)
  at_place x c i s =
      let l : i < length order = subst (λ (n : ℕ). i < n) (length-map order call) (slice_get_within (map call order) i c s) in
      let e : slice_get (map call order) i ≡ Some (call (get_or order i x)) =
      slice_get-map call order i ∙ ap (option_map call) (slice_get-get_or order i x l) in
      (l, same_Some (call (get_or order i x)) c (sym e ∙ s))

  stands_there : (x : X) (i : ℕ) → i < length order →
      StandsAt (map call order) (call (get_or order i x)) i
  stands_there x i l = slice_get-map call order i ∙ ap (option_map call) (slice_get-get_or order i x l)

  in_order : (x : X) → Contains things x → Contains order x
  in_order x m = Contains-permutation things order x sorted.all m

  pub among_things : (x : X) (i : ℕ) → i < length order → Contains things (get_or order i x)
  among_things x i l =
      Contains-permutation order things (get_or order i x) (IsPermutation-sym things order sorted.all) (Contains-get_or order i x l)

  -- the one thing of a call stands where the call does
  found_at : (x : X) (i : ℕ) → Contains things x → StandsAt (map call order) (call x) i →
      get_or order i x ≡ x
  found_at x i m s =
      let p = at_place x (call x) i s in
      sorted.one_each (get_or order i x) x (among_things x i p.0) m p.1

  ascends : (x y : X) (i j : ℕ) → get_or order i x ≡ x → get_or order j y ≡ y → i < j →
      j < length order → Below x y
  ascends x y i j e f l m =
      let b : Below (get_or order i x) (get_or order j x) = sorted.ascending i j x l m in
      let g : get_or order j x ≡ y = get_or-default order j x y m ∙ f in
      subst (λ (u : X). Below x u) g (subst (λ (u : X). Below u (get_or order j x)) e b)

  -- of any two things one is below the other
  pub comparable : (x y : X) → Contains things x → Contains things y →
      (x ≡ y) ⊎ (Below x y ⊎ Below y x)
  comparable x y m n = by_places (in_order x m) (in_order y n)
    where
      by_places : Contains order x → Contains order y → (x ≡ y) ⊎ (Below x y ⊎ Below y x)
      by_places (i, l, e) (j, k, f) = by_order (cases_order i j)
        where
          by_order : (i ≡ j) ⊎ ((i < j) ⊎ (j < i)) → (x ≡ y) ⊎ (Below x y ⊎ Below y x)
          by_order (inl same) =
              inl (sym e ∙ ap (λ (n : ℕ). get_or order n x) same ∙ get_or-default order j x y k ∙ f)
          by_order (inr (inl above)) = inr (inl (ascends x y i j e f above k))
          by_order (inr (inr under)) = inr (inr (ascends y x j i f e under l))

  module _ (asymmetric : IsAsymmetric Below) where
    below_itself : (x : X) → Below x x → ⊥
    below_itself x b = asymmetric x x b b

    pub calls_once : AllPairs (λ a b. a ≢ b) (map call order)
    calls_once i j d l m e =
        let k : j < length order = subst (λ (n : ℕ). j < n) (length-map order call) m in
        let x = some_of order j k in
        let same : call (get_or order i x) ≡ call (get_or order j x) =
        sym (get_or-map call order i x d (omega (arith, l, k))) ∙ e ∙ get_or-map call order j x d k in
        let one : get_or order i x ≡ get_or order j x =
        sorted.one_each (get_or order i x) (get_or order j x) (among_things x i (omega (arith, l, k))) (among_things x j k) same in
        below_itself (get_or order j x) (subst (λ (u : X). Below u (get_or order j x)) one (sorted.ascending i j x l k))

    pub before_below : (x y : X) → Contains things x → Contains things y →
        StandsBefore (map call order) (call x) (call y) → Below x y
    before_below x y m n s =
        ascends x y s.first s.second (found_at x s.first m s.first_stands) (found_at y s.second n s.second_stands) s.before
        (at_place y (call y) s.second s.second_stands).0

    pub below_before : (x y : X) → Contains things x → Contains things y → Below x y →
        StandsBefore (map call order) (call x) (call y)
    below_before x y m n b = by_places (in_order x m) (in_order y n)
      where
        stands : (z : X) (i : ℕ) → i < length order → get_or order i z ≡ z →
            StandsAt (map call order) (call z) i
        stands z i l e = stands_there z i l ∙ ap (λ (u : X). Some (call u)) e

        by_places : Contains order x → Contains order y →
            StandsBefore (map call order) (call x) (call y)
        by_places (i, l, e) (j, k, f) = by_order (cases_order i j)
          where
            by_order : (i ≡ j) ⊎ ((i < j) ⊎ (j < i)) →
                StandsBefore (map call order) (call x) (call y)
            by_order (inl same) =
                let g : x ≡ y = sym e ∙ ap (λ (n : ℕ). get_or order n x) same ∙ get_or-default order j x y k ∙ f in
                absurd (below_itself y (subst (λ (u : X). Below u y) g b))
            by_order (inr (inl above)) =
                record { first = i; second = j; first_stands = stands x i l e; second_stands = stands y j k f; before = above }
            by_order (inr (inr under)) = absurd (asymmetric x y b (ascends y x j i f e under l))

    pub before_as_below : (x y : X) → Contains things x → Contains things y →
        StandsBefore (map call order) (call x) (call y) ↔ Below x y
    before_as_below x y m n = (before_below x y m n, below_before x y m n)
