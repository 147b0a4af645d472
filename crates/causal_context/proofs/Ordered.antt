-- Lists by ascending place: an element put among others, two lists joined, and what stands at a place.
use Rattle.std.proofs.Common.{◌≡◌, ℕ, ◌<◌, ◌≤◌, ◌⊎◌, inl, inr, Bool, true, false, ◌==◌, nat_lt, if◌then◌else◌, Option, Some, None, List, [], ◌∷◌, All, arith, refl, sym, ap, ◌∙◌, subst}
use Rattle.std.proofs.lemmas.Bool.Decides.{nat_tests}
use Rattle.std.proofs.lemmas.List.Elements.{All-head, All-tail}

-- one number is below another, the same, or above it
pub three : (a b : ℕ) → (a < b) ⊎ ((a ≡ b) ⊎ (b < a))
three a b = grind arith

some_is : {X : Type 0} (x y : X) → Some x ≡ Some y → x ≡ y
some_is x y h = cc

none_some : {X : Type 0} (x : X) → None ≡ Some x → ⊥
none_some x h = cc

module _ {X : Type 0} (place : X → ℕ) where
  -- each stands above a place
  abbrev pub AllAbove : ℕ → List X → Type 0
  AllAbove n [] = Unit {0}
  AllAbove n (y ∷ ys) = (n < place y) × AllAbove n ys

  -- by ascending place
  abbrev pub Rising : List X → Type 0
  Rising [] = Unit {0}
  Rising (x ∷ xs) = AllAbove (place x) xs × Rising xs

  pub above_more : (m n : ℕ) (ys : List X) → m ≤ n → AllAbove n ys → AllAbove m ys
  above_more m n [] l h = tt
  above_more m n (y ∷ ys) l h = (omega (arith, h.0), above_more m n ys l h.1)

module _ {X : Type 0} (place : X → ℕ) (one : X → X → X) where
  -- an element put among others; of two at one place one is made
  abbrev pub put : X → List X → List X
  put x [] = x ∷ []
  put x (y ∷ ys) = if nat_lt (place x) (place y) then x ∷ y ∷ ys else if place x == place y then one y x ∷ ys else y ∷ put x ys

  -- each element of the second list put among those of the first
  abbrev pub joined : List X → List X → List X
  joined xs [] = xs
  joined xs (y ∷ ys) = joined (put y xs) ys

  -- what stands at a place
  abbrev pub at : ℕ → List X → Option X
  at n [] = None
  at n (y ∷ ys) = if place y == n then Some y else at n ys

  -- the element, where this is its place
  abbrev pub only : ℕ → X → Option X
  only n x = if place x == n then Some x else None

  -- of two that stand at a place one is made
  abbrev pub both : Option X → Option X → Option X
  both None b = b
  both (Some x) None = Some x
  both (Some x) (Some y) = Some (one x y)

  pub put_before : (x y : X) (ys : List X) → place x < place y → put x (y ∷ ys) ≡ x ∷ y ∷ ys
  put_before x y ys h = grind (arith, nat_tests)

  pub put_on : (x y : X) (ys : List X) → place x ≡ place y → put x (y ∷ ys) ≡ one y x ∷ ys
  put_on x y ys h = grind (arith, nat_tests)

  pub put_behind : (x y : X) (ys : List X) → place y < place x → put x (y ∷ ys) ≡ y ∷ put x ys
  put_behind x y ys h = grind (arith, nat_tests)

  pub at_above : (n : ℕ) (ys : List X) → AllAbove place n ys → at n ys ≡ None
  at_above n [] h = refl
  at_above n (y ∷ ys) h = let r = at_above n ys h.1 in let l = h.0 in grind (arith, nat_tests, r, l)

  pub both_none : (a : Option X) → both a None ≡ a
  both_none None = refl
  both_none (Some x) = refl

  module _ (kept : (x y : X) → place x ≡ place y → place (one x y) ≡ place x) where
    above_put : (n : ℕ) (x : X) (ys : List X) → n < place x → AllAbove place n ys → AllAbove place n (put x ys)
    above_put n x [] l h = (l, tt)
    above_put n x (y ∷ ys) l h = by_place (above_put n x ys l h.1) (three (place x) (place y))
      where
        by_place : AllAbove place n (put x ys) → (place x < place y) ⊎ ((place x ≡ place y) ⊎ (place y < place x)) → AllAbove place n (put x (y ∷ ys))
        by_place r (inl a) = subst (AllAbove place n) (sym (put_before x y ys a)) (l, h)
        by_place r (inr (inl a)) = let k = kept y x (sym a) in subst (AllAbove place n) (sym (put_on x y ys a)) (omega (arith, k, h.0), h.1)
        by_place r (inr (inr a)) = subst (AllAbove place n) (sym (put_behind x y ys a)) (h.0, r)

    pub rising_put : (x : X) (ys : List X) → Rising place ys → Rising place (put x ys)
    rising_put x [] h = (tt, tt)
    rising_put x (y ∷ ys) h = by_place (rising_put x ys h.1) (three (place x) (place y))
      where
        by_place : Rising place (put x ys) → (place x < place y) ⊎ ((place x ≡ place y) ⊎ (place y < place x)) → Rising place (put x (y ∷ ys))
        by_place r (inl a) = subst (Rising place) (sym (put_before x y ys a)) ((a, above_more place (place x) (place y) ys (omega arith) h.0), h)
        by_place r (inr (inl a)) = let k = kept y x (sym a) in subst (Rising place) (sym (put_on x y ys a)) (above_more place (place (one y x)) (place y) ys (omega (arith, k)) h.0, h.1)
        by_place r (inr (inr a)) = subst (Rising place) (sym (put_behind x y ys a)) (above_put (place y) x ys a h.0, r)

    pub rising_joined : (xs ys : List X) → Rising place xs → Rising place (joined xs ys)
    rising_joined xs [] h = h
    rising_joined xs (y ∷ ys) h = rising_joined (put y xs) ys (rising_put y xs h)

    at_put : (n : ℕ) (x : X) (ys : List X) → Rising place ys → at n (put x ys) ≡ both (at n ys) (only n x)
    at_put n x [] h = refl
    at_put n x (y ∷ ys) h = by_place (at_put n x ys h.1) (three (place x) (place y))
      where
        by_place : at n (put x ys) ≡ both (at n ys) (only n x) → (place x < place y) ⊎ ((place x ≡ place y) ⊎ (place y < place x)) → at n (put x (y ∷ ys)) ≡ both (at n (y ∷ ys)) (only n x)
        by_place r (inl a) =
            let e = put_before x y ys a in
            let f = at_above (place x) ys (above_more place (place x) (place y) ys (omega (arith, a)) h.0) in
            let g = both_none (at n (y ∷ ys)) in
            grind (arith, nat_tests, e, f, g, a)
        by_place r (inr (inl a)) =
            let e = put_on x y ys a in
            let k = kept y x (sym a) in
            let g = both_none (at n ys) in
            grind (arith, nat_tests, e, k, g, a)
        by_place r (inr (inr a)) =
            let e = put_behind x y ys a in
            grind (arith, nat_tests, e, r, a)

    pub at_joined : (n : ℕ) (xs ys : List X) → Rising place xs → Rising place ys → at n (joined xs ys) ≡ both (at n xs) (at n ys)
    at_joined n xs [] h k = sym (both_none (at n xs))
    at_joined n xs (y ∷ ys) h k =
        let r = at_joined n (put y xs) ys (rising_put y xs h) k.1 in
        let p = at_put n y xs h in
        let f = at_above (place y) ys k.0 in
        let g = both_none (both (at n xs) (Some y)) in
        let i = both_none (at n xs) in
        grind (arith, nat_tests, r, p, f, g, i)

  rest_same : (n : ℕ) (x y : X) (xs ys : List X) → place x ≡ place y → AllAbove place (place x) xs → AllAbove place (place y) ys → at n (x ∷ xs) ≡ at n (y ∷ ys) → at n xs ≡ at n ys
  rest_same n x y xs ys e a b h =
      let f = at_above (place x) xs a in
      let g = at_above (place y) ys b in
      grind (arith, nat_tests, f, g, h, e)

  -- lists by ascending place that agree at each place are the same
  pub same_everywhere : (xs ys : List X) → Rising place xs → Rising place ys → ((n : ℕ) → at n xs ≡ at n ys) → xs ≡ ys
  same_everywhere [] [] h k e = refl
  same_everywhere [] (y ∷ ys) h k e = let f = e (place y) in absurd (none_some y (grind (arith, nat_tests, f)))
  same_everywhere (x ∷ xs) [] h k e = let f = e (place x) in absurd (none_some x (grind (arith, nat_tests, f)))
  same_everywhere (x ∷ xs) (y ∷ ys) h k e = by_place (same_everywhere xs ys h.1 k.1) (three (place x) (place y))
    where
      by_place : (((n : ℕ) → at n xs ≡ at n ys) → xs ≡ ys) → (place x < place y) ⊎ ((place x ≡ place y) ⊎ (place y < place x)) → x ∷ xs ≡ y ∷ ys
      by_place r (inl a) =
          let f = e (place x) in
          let g = at_above (place x) ys (above_more place (place x) (place y) ys (omega (arith, a)) k.0) in
          absurd (none_some x (grind (arith, nat_tests, f, g, a)))
      by_place r (inr (inl a)) =
          let f = e (place x) in
          let s : x ≡ y = some_is x y (grind (arith, nat_tests, f, a)) in
          let t = r (λ n. rest_same n x y xs ys a h.0 k.0 (e n)) in
          grind (arith, s, t)
      by_place r (inr (inr a)) =
          let f = e (place y) in
          let g = at_above (place y) xs (above_more place (place y) (place x) xs (omega (arith, a)) h.0) in
          absurd (none_some y (grind (arith, nat_tests, f, g, a)))

  -- joining with nothing
  pub joined_nothing : ((x y : X) → place x ≡ place y → place (one x y) ≡ place x) → (xs : List X) → Rising place xs → joined [] xs ≡ xs
  joined_nothing kept xs h = same_everywhere (joined [] xs) xs (rising_joined kept [] xs tt) h (λ n. at_joined kept n [] xs tt h)

  -- joining a list with itself, where one element made of two equal ones is the same
  pub joined_itself : ((x y : X) → place x ≡ place y → place (one x y) ≡ place x) → ((x : X) → one x x ≡ x) → (xs : List X) → Rising place xs → joined xs xs ≡ xs
  joined_itself kept same xs h = same_everywhere (joined xs xs) xs (rising_joined kept xs xs h) h (λ n. at_joined kept n xs xs h h ∙ both_itself (at n xs))
    where
      both_itself : (a : Option X) → both a a ≡ a
      both_itself None = refl
      both_itself (Some x) = ap Some (same x)

  -- joining is associative where making one of two is
  pub joined_thrice : ((x y : X) → place x ≡ place y → place (one x y) ≡ place x) → ((x y z : X) → one (one x y) z ≡ one x (one y z))
      → (xs ys zs : List X) → Rising place xs → Rising place ys → Rising place zs → joined (joined xs ys) zs ≡ joined xs (joined ys zs)
  joined_thrice kept same xs ys zs h k l =
      let left = rising_joined kept xs ys h in
      let right = rising_joined kept ys zs k in
      same_everywhere (joined (joined xs ys) zs) (joined xs (joined ys zs)) (rising_joined kept (joined xs ys) zs left) (rising_joined kept xs (joined ys zs) h)
      (λ n. at_joined kept n (joined xs ys) zs left l
      ∙ ap (λ a. both a (at n zs)) (at_joined kept n xs ys h k)
      ∙ both_thrice (at n xs) (at n ys) (at n zs)
      ∙ ap (both (at n xs)) (sym (at_joined kept n ys zs k l))
      ∙ sym (at_joined kept n xs (joined ys zs) h right))
    where
      both_thrice : (a b c : Option X) → both (both a b) c ≡ both a (both b c)
      both_thrice None b c = refl
      both_thrice (Some x) None c = refl
      both_thrice (Some x) (Some y) None = refl
      both_thrice (Some x) (Some y) (Some z) = ap Some (same x y z)

  -- joining is commutative where making one of two that stand there is
  pub joined_swapped : ((x y : X) → place x ≡ place y → place (one x y) ≡ place x)
      → (xs ys : List X) → ((n : ℕ) (x y : X) → at n xs ≡ Some x → at n ys ≡ Some y → one x y ≡ one y x) → Rising place xs → Rising place ys → joined xs ys ≡ joined ys xs
  joined_swapped kept xs ys same h k =
      same_everywhere (joined xs ys) (joined ys xs) (rising_joined kept xs ys h) (rising_joined kept ys xs k)
      (λ n. at_joined kept n xs ys h k ∙ both_swapped (at n xs) (at n ys) (same n) ∙ sym (at_joined kept n ys xs k h))
    where
      both_swapped : (a b : Option X) → ((x y : X) → a ≡ Some x → b ≡ Some y → one x y ≡ one y x) → both a b ≡ both b a
      both_swapped None None e = refl
      both_swapped None (Some y) e = refl
      both_swapped (Some x) None e = refl
      both_swapped (Some x) (Some y) e = ap Some (e x y refl refl)

  -- what stands at a place has that place, and is an element
  pub at_is : (n : ℕ) (x : X) (xs : List X) → at n xs ≡ Some x → place x ≡ n
  at_is n x [] h = absurd (none_some x h)
  at_is n x (y ∷ ys) h = by_test (at_is n x ys) (place y == n) refl
    where
      by_test : (at n ys ≡ Some x → place x ≡ n) → (b : Bool) → (place y == n) ≡ b → place x ≡ n
      by_test r true e = let s : y ≡ x = some_is y x (grind (arith, h, e)) in grind (arith, nat_tests, s, e)
      by_test r false e = r (grind (arith, h, e))

  pub at_all : (P : X → Type 0) (n : ℕ) (x : X) (xs : List X) → All P xs → at n xs ≡ Some x → P x
  at_all P n x [] a h = absurd (none_some x h)
  at_all P n x (y ∷ ys) a h = by_test (at_all P n x ys (All-tail P y ys a)) (place y == n) refl
    where
      by_test : (at n ys ≡ Some x → P x) → (b : Bool) → (place y == n) ≡ b → P x
      by_test r true e = subst P (some_is y x (grind (arith, h, e))) (All-head P y ys a)
      by_test r false e = r (grind (arith, h, e))
