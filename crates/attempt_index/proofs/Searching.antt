-- What stands at its place in a list that ascends, and that lists go on ascending.
use Rattle.std.proofs.Common.{◌≡◌, ℕ, suc, zero, ◌+◌, ◌<◌, ◌≤◌, Bool, true, false, ◌&&◌, not, List, [], ◌∷◌, length, get_or, Result, Ok, Err, arith, refl, sym, ap, ◌∙◌}
use Rattle.std.specs.List.{insert, remove, list_all}
use Rattle.std.specs.List.Sorted.{IsPartitionedBy, IsPartitionPoint}
use Rattle.std.proofs.lemmas.Bool.{false≢true}
use Rattle.attempt_index.specs.Ascending.{ascends, front, place_in, stands_in, searched, put_in, without_in}

pub both : (a b : Bool) → (a && b) ≡ true → (a ≡ true) × (b ≡ true)
both true b e = (refl, e)
both false b e = absurd (false≢true e)

pub all-at : {X : Type 0} (test : X → Bool) (xs : List X) → list_all test xs ≡ true → (i : ℕ) (d : X) → i < length xs → test (get_or xs i d) ≡ true
all-at test [] h i d l = absurd (omega (arith, l))
all-at test (x ∷ xs) h zero d l = (both _ _ h).0
all-at test (x ∷ xs) h (suc i) d l = all-at test xs (both _ _ h).1 i d (omega (arith, l))

-- a test that passes all before what it passes parts an ascending list
pub parted : {X : Type 0} (before : X → X → Bool) (test : X → Bool) → ((a b : X) → before a b ≡ true → test b ≡ true → test a ≡ true) → (xs : List X) → ascends before xs ≡ true → IsPartitionedBy test xs
parted before test c [] h i j d le lt e = absurd (omega (arith, lt))
parted before test c (x ∷ xs) h zero zero d le lt e = e
parted before test c (x ∷ xs) h zero (suc j) d le lt e = c x (get_or xs j d) (all-at (before x) xs (both _ _ h).0 j d (omega (arith, lt))) e
parted before test c (x ∷ xs) h (suc i) zero d le lt e = absurd (omega (arith, le))
parted before test c (x ∷ xs) h (suc i) (suc j) d le lt e = parted before test c xs (both _ _ h).1 i j d (omega (arith, le)) (omega (arith, lt)) e

-- the place that parts a list is the length of its front that passes
pub front-is : {X : Type 0} (test : X → Bool) (xs : List X) (i : ℕ) → i ≤ length xs → IsPartitionPoint (λ y. test y ≡ true) (λ y. test y ≡ false) xs i → front test xs ≡ i
front-is test [] i l h = omega (arith, l)
front-is test (x ∷ xs) zero l h = rw (h.1 zero x (omega arith) (omega arith)) refl
front-is test (x ∷ xs) (suc i) l h =
    rw (h.0 zero x (omega arith) (omega arith)) (ap suc (front-is test xs i (omega (arith, l)) (λ k d a b. h.0 (suc k) d (omega arith) (omega (arith, b)), λ k d a b. h.1 (suc k) d (omega (arith, a)) (omega (arith, b)))))

-- what stands at the place of an item
pub stands-here : {X : Type 0} (before : X → X → Bool) (xs : List X) (x d : X) → place_in before xs x < length xs → stands_in before xs x ≡ not (before x (get_or xs (place_in before xs x) d))
stands-here before [] x d l = absurd (omega (arith, l))
stands-here {X} before (y ∷ ys) x d l = go (before y x) refl (stands-here before ys x d)
  where
    go : (b : Bool) → before y x ≡ b → (place_in before ys x < length ys → stands_in before ys x ≡ not (before x (get_or ys (place_in before ys x) d))) → stands_in before (y ∷ ys) x ≡ not (before x (get_or (y ∷ ys) (place_in before (y ∷ ys) x) d))
    go true e ih = rw e (ih (let m = rw e at l in omega (arith, m)))
    go false e ih = rw e refl

pub stands-nowhere : {X : Type 0} (before : X → X → Bool) (xs : List X) (x : X) → length xs ≤ place_in before xs x → stands_in before xs x ≡ false
stands-nowhere before [] x l = refl
stands-nowhere {X} before (y ∷ ys) x l = go (before y x) refl (stands-nowhere before ys x)
  where
    go : (b : Bool) → before y x ≡ b → (length ys ≤ place_in before ys x → stands_in before ys x ≡ false) → stands_in before (y ∷ ys) x ≡ false
    go true e ih = rw e (ih (let m = rw e at l in omega (arith, m)))
    go false e ih = absurd (let m = rw e at l in omega (arith, m))

-- an item that stands at its place is there already
pub put-standing : {X : Type 0} (before : X → X → Bool) (xs : List X) (x : X) → stands_in before xs x ≡ true → put_in before xs x ≡ xs
put-standing before [] x h = absurd (false≢true h)
put-standing {X} before (y ∷ ys) x h = go (before y x) refl (before x y) refl (put-standing before ys x)
  where
    go : (b : Bool) → before y x ≡ b → (c : Bool) → before x y ≡ c → (stands_in before ys x ≡ true → put_in before ys x ≡ ys) → put_in before (y ∷ ys) x ≡ y ∷ ys
    go true e c f ih = rw e (ap (λ (l : List X). y ∷ l) (ih (rw e at h)))
    go false e true f ih = absurd (false≢true (rw (e, f) at h))
    go false e false f ih = rw (e, f) refl

-- one that does not is inserted at its place
pub put-inserted : {X : Type 0} (before : X → X → Bool) (xs : List X) (x : X) → stands_in before xs x ≡ false → put_in before xs x ≡ insert xs (place_in before xs x) x
put-inserted before [] x h = refl
put-inserted {X} before (y ∷ ys) x h = go (before y x) refl (before x y) refl (put-inserted before ys x)
  where
    go : (b : Bool) → before y x ≡ b → (c : Bool) → before x y ≡ c → (stands_in before ys x ≡ false → put_in before ys x ≡ insert ys (place_in before ys x) x) → put_in before (y ∷ ys) x ≡ insert (y ∷ ys) (place_in before (y ∷ ys) x) x
    go true e c f ih = rw e (ap (λ (l : List X). y ∷ l) (ih (rw e at h)))
    go false e true f ih = rw (e, f) refl
    go false e false f ih = absurd (false≢true (sym (rw (e, f) at h)))

pub left-removed : {X : Type 0} (before : X → X → Bool) (xs : List X) (x : X) → stands_in before xs x ≡ true → without_in before xs x ≡ remove xs (place_in before xs x)
left-removed before [] x h = absurd (false≢true h)
left-removed {X} before (y ∷ ys) x h = go (before y x) refl (before x y) refl (left-removed before ys x)
  where
    go : (b : Bool) → before y x ≡ b → (c : Bool) → before x y ≡ c → (stands_in before ys x ≡ true → without_in before ys x ≡ remove ys (place_in before ys x)) → without_in before (y ∷ ys) x ≡ remove (y ∷ ys) (place_in before (y ∷ ys) x)
    go true e c f ih = rw e (ap (λ (l : List X). y ∷ l) (ih (rw e at h)))
    go false e true f ih = absurd (false≢true (rw (e, f) at h))
    go false e false f ih = rw (e, f) refl

pub left-whole : {X : Type 0} (before : X → X → Bool) (xs : List X) (x : X) → stands_in before xs x ≡ false → without_in before xs x ≡ xs
left-whole before [] x h = refl
left-whole {X} before (y ∷ ys) x h = go (before y x) refl (before x y) refl (left-whole before ys x)
  where
    go : (b : Bool) → before y x ≡ b → (c : Bool) → before x y ≡ c → (stands_in before ys x ≡ false → without_in before ys x ≡ ys) → without_in before (y ∷ ys) x ≡ y ∷ ys
    go true e c f ih = rw e (ap (λ (l : List X). y ∷ l) (ih (rw e at h)))
    go false e true f ih = rw (e, f) refl
    go false e false f ih = absurd (false≢true (sym (rw (e, f) at h)))

-- what passes a test of all and of the new one, all pass
pub all-put : {X : Type 0} (before : X → X → Bool) (test : X → Bool) (xs : List X) (x : X) → test x ≡ true → list_all test xs ≡ true → list_all test (put_in before xs x) ≡ true
all-put before test [] x t h = rw t refl
all-put {X} before test (y ∷ ys) x t h = let p = both _ _ h in go (before y x) refl (before x y) refl p.0 (all-put before test ys x t p.1)
  where
    go : (b : Bool) → before y x ≡ b → (c : Bool) → before x y ≡ c → test y ≡ true → list_all test (put_in before ys x) ≡ true → list_all test (put_in before (y ∷ ys) x) ≡ true
    go true e c f q ih = rw (e, q) ih
    go false e true f q ih = rw (e, f) (rw t h)
    go false e false f q ih = rw (e, f) h

pub all-left : {X : Type 0} (before : X → X → Bool) (test : X → Bool) (xs : List X) (x : X) → list_all test xs ≡ true → list_all test (without_in before xs x) ≡ true
all-left before test [] x h = refl
all-left {X} before test (y ∷ ys) x h = let p = both _ _ h in go (before y x) refl (before x y) refl p.0 p.1 (all-left before test ys x p.1)
  where
    go : (b : Bool) → before y x ≡ b → (c : Bool) → before x y ≡ c → test y ≡ true → list_all test ys ≡ true → list_all test (without_in before ys x) ≡ true → list_all test (without_in before (y ∷ ys) x) ≡ true
    go true e c f q r ih = rw (e, q) ih
    go false e true f q r ih = rw (e, f) h
    go false e false f q r ih = rw (e, f) r

-- all that stands behind a later item stands behind an earlier one
pub all-behind : {X : Type 0} (before : X → X → Bool) → ((a b c : X) → before a b ≡ true → before b c ≡ true → before a c ≡ true) → (x y : X) (ys : List X) → before x y ≡ true → list_all (before y) ys ≡ true → list_all (before x) ys ≡ true
all-behind before t x y [] e h = refl
all-behind before t x y (z ∷ zs) e h = let p = both _ _ h in rw (t x y z e p.0) (all-behind before t x y zs e p.1)

pub ascends-put : {X : Type 0} (before : X → X → Bool) → ((a b c : X) → before a b ≡ true → before b c ≡ true → before a c ≡ true) → (xs : List X) (x : X) → ascends before xs ≡ true → ascends before (put_in before xs x) ≡ true
ascends-put before t [] x h = refl
ascends-put {X} before t (y ∷ ys) x h = let p = both _ _ h in go (before y x) refl (before x y) refl p.0 p.1 (ascends-put before t ys x p.1)
  where
    go : (b : Bool) → before y x ≡ b → (c : Bool) → before x y ≡ c → list_all (before y) ys ≡ true → ascends before ys ≡ true → ascends before (put_in before ys x) ≡ true → ascends before (put_in before (y ∷ ys) x) ≡ true
    go true e c f q r ih = rw (e, all-put before (before y) ys x e q) ih
    go false e true f q r ih = rw (e, f) (rw (f, all-behind before t x y ys f q) h)
    go false e false f q r ih = rw (e, f) h

pub ascends-left : {X : Type 0} (before : X → X → Bool) (xs : List X) (x : X) → ascends before xs ≡ true → ascends before (without_in before xs x) ≡ true
ascends-left before [] x h = refl
ascends-left {X} before (y ∷ ys) x h = let p = both _ _ h in go (before y x) refl (before x y) refl p.0 p.1 (ascends-left before ys x p.1)
  where
    go : (b : Bool) → before y x ≡ b → (c : Bool) → before x y ≡ c → list_all (before y) ys ≡ true → ascends before ys ≡ true → ascends before (without_in before ys x) ≡ true → ascends before (without_in before (y ∷ ys) x) ≡ true
    go true e c f q r ih = rw (e, all-left before (before y) ys x q) ih
    go false e true f q r ih = rw (e, f) h
    go false e false f q r ih = rw (e, f) r

-- a list grows by one at most, and does not shrink
pub length-put : {X : Type 0} (before : X → X → Bool) (xs : List X) (x : X) → (length xs ≤ length (put_in before xs x)) × (length (put_in before xs x) ≤ length xs + 1)
length-put before [] x = (omega arith, omega arith)
length-put {X} before (y ∷ ys) x = go (before y x) refl (before x y) refl (length-put before ys x)
  where
    go : (b : Bool) → before y x ≡ b → (c : Bool) → before x y ≡ c → (length ys ≤ length (put_in before ys x)) × (length (put_in before ys x) ≤ length ys + 1) → (length (y ∷ ys) ≤ length (put_in before (y ∷ ys) x)) × (length (put_in before (y ∷ ys) x) ≤ length (y ∷ ys) + 1)
    go true e c f ih = rw e (omega (arith, ih.0), omega (arith, ih.1))
    go false e true f ih = rw (e, f) (omega arith, omega arith)
    go false e false f ih = rw (e, f) (omega arith, omega arith)

pub put-fits : {X : Type 0} (before : X → X → Bool) (xs : List X) (x : X) (room : ℕ) → length xs + 1 ≤ room → length (put_in before xs x) ≤ room
put-fits before xs x room h = omega (arith, (length-put before xs x).1, h)

pub length-left : {X : Type 0} (before : X → X → Bool) (xs : List X) (x : X) → length (without_in before xs x) ≤ length xs
length-left before [] x = omega arith
length-left {X} before (y ∷ ys) x = go (before y x) refl (before x y) refl (length-left before ys x)
  where
    go : (b : Bool) → before y x ≡ b → (c : Bool) → before x y ≡ c → length (without_in before ys x) ≤ length ys → length (without_in before (y ∷ ys) x) ≤ length (y ∷ ys)
    go true e c f ih = rw e (omega (arith, ih))
    go false e true f ih = rw (e, f) (omega arith)
    go false e false f ih = rw (e, f) (omega arith)

-- what a search answers where the item at the place is no later one
pub found-here : {X : Type 0} (before : X → X → Bool) (xs : List X) (x d : X) (i : ℕ) → i ≡ place_in before xs x → i < length xs → before x (get_or xs i d) ≡ false → Ok i ≡ searched before xs x
found-here {X} before xs x d i h k e =
    let here : stands_in before xs x ≡ true = stands-here before xs x d (rw (sym h) k) ∙ rw (sym h, e) refl in
    rw (here, h) refl

-- and where it is a later one, or there is none
pub found-before : {X : Type 0} (before : X → X → Bool) (xs : List X) (x d : X) (i : ℕ) → i ≡ place_in before xs x → i < length xs → before x (get_or xs i d) ≡ true → Err i ≡ searched before xs x
found-before {X} before xs x d i h k e =
    let here : stands_in before xs x ≡ false = stands-here before xs x d (rw (sym h) k) ∙ rw (sym h, e) refl in
    rw (here, h) refl

pub found-last : {X : Type 0} (before : X → X → Bool) (xs : List X) (x : X) (i : ℕ) → i ≡ place_in before xs x → length xs ≤ i → Err i ≡ searched before xs x
found-last {X} before xs x i h k =
    let here : stands_in before xs x ≡ false = stands-nowhere before xs x (rw (sym h) k) in
    rw (here, h) refl

-- what a search's answer says
pub is-there : {X : Type 0} (before : X → X → Bool) (xs : List X) (x : X) (i : ℕ) → Ok i ≡ searched before xs x → (stands_in before xs x ≡ true) × (i ≡ place_in before xs x)
is-there before xs x i h = go (stands_in before xs x) refl
  where
    go : (b : Bool) → stands_in before xs x ≡ b → (stands_in before xs x ≡ true) × (i ≡ place_in before xs x)
    go true e = (e, let m : ◌≡◌ {A = Result ℕ ℕ} (Ok i) (Ok (place_in before xs x)) = rw e at h in cc)
    go false e = absurd (let m : ◌≡◌ {A = Result ℕ ℕ} (Ok i) (Err (place_in before xs x)) = rw e at h in cc)

pub is-nowhere : {X : Type 0} (before : X → X → Bool) (xs : List X) (x : X) (i : ℕ) → Err i ≡ searched before xs x → (stands_in before xs x ≡ false) × (i ≡ place_in before xs x)
is-nowhere before xs x i h = go (stands_in before xs x) refl
  where
    go : (b : Bool) → stands_in before xs x ≡ b → (stands_in before xs x ≡ false) × (i ≡ place_in before xs x)
    go false e = (e, let m : ◌≡◌ {A = Result ℕ ℕ} (Err i) (Err (place_in before xs x)) = rw e at h in cc)
    go true e = absurd (let m : ◌≡◌ {A = Result ℕ ℕ} (Err i) (Ok (place_in before xs x)) = rw e at h in cc)

-- a list after a search and what is done by its answer
pub put-by : {X : Type 0} (before : X → X → Bool) (xs : List X) (x : X) (i : ℕ) → Err i ≡ searched before xs x → insert xs i x ≡ put_in before xs x
put-by {X} before xs x i h = let p = is-nowhere before xs x i h in rw p.1 (sym (put-inserted before xs x p.0))

pub left-by : {X : Type 0} (before : X → X → Bool) (xs : List X) (x : X) (i : ℕ) → Ok i ≡ searched before xs x → remove xs i ≡ without_in before xs x
left-by {X} before xs x i h = let p = is-there before xs x i h in rw p.1 (sym (left-removed before xs x p.0))
