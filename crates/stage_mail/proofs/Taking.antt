-- A number is taken out of a list that ascends at the place where it was found.
use Rattle.std.proofs.Common.{◌≡◌, ℕ, suc, zero, ◌<◌, ◌≤◌, ◌==◌, ◌&&◌, Bool, true, false, List, [], ◌∷◌, length, get_or, nat_le, Result, Ok, Err, arith, refl, ap}
use Rattle.std.specs.List.{remove}
use Rattle.std.specs.Ordering.{nat_cmp}
use Rattle.std.specs.List.Sorted.{IsBinarySearchResult}
use Rattle.std.proofs.lemmas.Bool.{false≢true}
use Rattle.std.proofs.lemmas.List.Sorted.{searched}
use Rattle.stage_mail.specs.Lists.{rises_from, without}

pub both : (a b : Bool) → (a && b) ≡ true → (a ≡ true) × (b ≡ true)
both true b e = (refl, e)
both false b e = absurd (false≢true e)

at-least : (least x : ℕ) → nat_le least x ≡ true → least ≤ x
at-least least x h = grind (arith, h)

pub least-at : (least : ℕ) (xs : List ℕ) → rises_from least xs ≡ true → (i : ℕ) → i < length xs → least ≤ get_or xs i 0
least-at least [] h i l = absurd (omega (arith, l))
least-at least (x ∷ xs) h zero l = at-least least x (both _ _ h).0
least-at least (x ∷ xs) h (suc i) l =
    let p = both (nat_le least x) (rises_from (suc x) xs) h in
    omega (arith, at-least least x p.0, least-at (suc x) xs p.1 i (omega (arith, l)))

pub in-order : (least : ℕ) (xs : List ℕ) → rises_from least xs ≡ true → (i j : ℕ) → i ≤ j → j < length xs → get_or xs i 0 ≤ get_or xs j 0
in-order least [] h i j le l = absurd (omega (arith, l))
in-order least (x ∷ xs) h zero zero le l = omega arith
in-order least (x ∷ xs) h zero (suc j) le l =
    let p = both (nat_le least x) (rises_from (suc x) xs) h in
    omega (arith, least-at (suc x) xs p.1 j (omega (arith, l)))
in-order least (x ∷ xs) h (suc i) zero le l = absurd (omega (arith, le))
in-order least (x ∷ xs) h (suc i) (suc j) le l =
    let p = both (nat_le least x) (rises_from (suc x) xs) h in
    in-order (suc x) xs p.1 i j (omega (arith, le)) (omega (arith, l))

equal : (x y : ℕ) → (x == y) ≡ true → x ≡ y
equal x y h = grind (arith, h)

pub unequal : (x y : ℕ) → (x ≡ y → ⊥) → (x == y) ≡ false
unequal x y h = go (x == y) refl
  where
    go : (b : Bool) → (x == y) ≡ b → (x == y) ≡ false
    go true e = absurd (h (equal x y e))
    go false e = e

pub itself : (x y : ℕ) → x ≡ y → (x == y) ≡ true
itself x y h = grind (arith, h)

-- the number that stands at a place is taken out there
pub taken : (least number : ℕ) (xs : List ℕ) (i : ℕ) → rises_from least xs ≡ true → i < length xs → get_or xs i 0 ≡ number → remove xs i ≡ without number xs
taken least number [] i h l e = absurd (omega (arith, l))
taken least number (x ∷ xs) zero h l e = rw (itself x number e) refl
taken least number (x ∷ xs) (suc i) h l e =
    let p = both (nat_le least x) (rises_from (suc x) xs) h in
    let below : suc x ≤ number = omega (arith, least-at (suc x) xs p.1 i (omega (arith, l)), e) in
    let other : (x == number) ≡ false = unequal x number (λ q. omega (arith, below, q)) in
    rw other (ap (λ (ys : List ℕ). x ∷ ys) (taken (suc x) number xs i p.1 (omega (arith, l)) e))

-- a number that stands nowhere is not taken out
pub left-whole : (number : ℕ) (xs : List ℕ) → ((k : ℕ) → k < length xs → get_or xs k 0 ≡ number → ⊥) → without number xs ≡ xs
left-whole number [] h = refl
left-whole number (x ∷ xs) h =
    let other : (x == number) ≡ false = unequal x number (h zero (omega arith)) in
    rw other (ap (λ (ys : List ℕ). x ∷ ys) (left-whole number xs (λ k l. h (suc k) (omega (arith, l)))))

pub length-without : (number : ℕ) (xs : List ℕ) → length (without number xs) ≤ length xs
length-without number [] = omega arith
length-without number (x ∷ xs) = go (x == number) refl (length-without number xs)
  where
    go : (b : Bool) → (x == number) ≡ b → length (without number xs) ≤ length xs → length (without number (x ∷ xs)) ≤ length (x ∷ xs)
    go true e ih = rw e (omega arith)
    go false e ih = rw e (omega (arith, ih))

-- what a search by halves found is taken out at its place
pub halved : (xs items : List ℕ) (x : ℕ) (r : Result ℕ ℕ) → IsBinarySearchResult (λ (y : ℕ). nat_cmp y x) xs r → xs ≡ items → rises_from 0 items ≡ true → (i : ℕ) → r ≡ Ok i → remove items i ≡ without x items
halved xs items x (Ok j) p v h i e =
    let at : ◌≡◌ {A = Result ℕ ℕ} (Ok j) (Ok i) = e in
    let same : j ≡ i = cc in
    let q = searched xs x (Ok j) p (λ a b le l. rw v (in-order 0 items h a b le (rw v at l))) in
    rw (← same) (taken 0 x items j h (rw v at q.0) (rw v at q.1))
halved xs items x (Err j) p v h i e = absurd (let m : ◌≡◌ {A = Result ℕ ℕ} (Err j) (Ok i) = e in cc)

-- what it did not find stands nowhere
pub missed : (xs items : List ℕ) (x : ℕ) (r : Result ℕ ℕ) → IsBinarySearchResult (λ (y : ℕ). nat_cmp y x) xs r → xs ≡ items → rises_from 0 items ≡ true → (i : ℕ) → r ≡ Err i → without x items ≡ items
missed xs items x (Err j) p v h i e =
    let q = searched xs x (Err j) p (λ a b le l. rw v (in-order 0 items h a b le (rw v at l))) in
    left-whole x items (λ k l s. elsewhere k (rw v at q.1 k) (rw v at q.2 k) l s)
  where
    elsewhere : (k : ℕ) → (k < j → get_or items k 0 < x) → (j ≤ k → k < length items → x < get_or items k 0) → k < length items → get_or items k 0 ≡ x → ⊥
    elsewhere k below above l s = grind (arith, below, above, l, s)
missed xs items x (Ok j) p v h i e = absurd (let m : ◌≡◌ {A = Result ℕ ℕ} (Ok j) (Err i) = e in cc)
