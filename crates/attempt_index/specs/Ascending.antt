-- Lists that ascend by a test: what stands where in them, and what becomes of them.
use Rattle.std.specs.Prelude.{ℕ, suc, Bool, true, false, ◌&&◌, not, List, [], ◌∷◌, Result, Ok, Err, if◌then◌else◌}
use Rattle.std.specs.List.{list_all}

-- whether each item stands before each later one
abbrev pub ascends : {X : Type 0} → (X → X → Bool) → List X → Bool
ascends before [] = true
ascends before (x ∷ xs) = list_all (before x) xs && ascends before xs

-- how many items at the front pass a test
abbrev pub front : {X : Type 0} → (X → Bool) → List X → ℕ
front test [] = 0
front test (x ∷ xs) = if test x then suc (front test xs) else 0

-- how many items stand before this one
abbrev pub place_in : {X : Type 0} → (X → X → Bool) → List X → X → ℕ
place_in before xs x = front (λ y. before y x) xs

-- whether the item at that place is no later one
abbrev pub stands_in : {X : Type 0} → (X → X → Bool) → List X → X → Bool
stands_in before [] x = false
stands_in before (y ∷ ys) x = if before y x then stands_in before ys x else not (before x y)

-- the place at which an item stands, or else the place at which it belongs
abbrev pub searched : {X : Type 0} → (X → X → Bool) → List X → X → Result ℕ ℕ
searched before xs x =
    if stands_in before xs x then Ok (place_in before xs x) else Err (place_in before xs x)

-- an item is put at its place, unless it stands there
abbrev pub put_in : {X : Type 0} → (X → X → Bool) → List X → X → List X
put_in before [] x = x ∷ []
put_in before (y ∷ ys) x =
    if before y x then y ∷ put_in before ys x else (if before x y then x ∷ y ∷ ys else y ∷ ys)

-- an item is taken away, if it stands at its place
abbrev pub without_in : {X : Type 0} → (X → X → Bool) → List X → X → List X
without_in before [] x = []
without_in before (y ∷ ys) x =
    if before y x then y ∷ without_in before ys x else (if before x y then y ∷ ys else ys)
