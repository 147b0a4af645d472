-- Majorities of a list of replicas, and the stamps that they hold.
use Rattle.std.specs.Prelude.{◌≡◌, ℕ, suc, Bool, List, [], ◌∷◌, length, Some, nat_le, slice_get, if◌then◌else◌, IsTrue}
use Rattle.carstamps.specs.declared.carstamp.Carstamp.{Carstamp}
use Rattle.carstamps.specs.Stamp.{stamp_le, opening_stamp, greater_stamp}
use Rattle.rss_tables.specs.Round.{majority}

-- how many members of a list pass a test
abbrev pub count_passing : {X : Type 0} → (X → Bool) → List X → ℕ
count_passing test [] = 0
count_passing test (x ∷ xs) = if test x then suc (count_passing test xs) else count_passing test xs

-- whether a majority of the members of a list passes a test
abbrev pub majority_passes : {X : Type 0} → (X → Bool) → List X → Bool
majority_passes test xs = nat_le (majority (length xs)) (count_passing test xs)

-- a place of two lists at which a member of the one passes its test, and a member of the other its own
pub record HaveCommonPlace {X Y : Type 0} (p : X → Bool) (q : Y → Bool) (xs : List X) (ys : List Y) : Type 0 where
  pub place : ℕ
  pub first : X
  pub second : Y
  pub first_there : slice_get xs place ≡ Some first
  pub second_there : slice_get ys place ≡ Some second
  pub first_passes : IsTrue (p first)
  pub second_passes : IsTrue (q second)

-- whether a majority of the members of a list holds this stamp or a greater one
abbrev pub is_held : {X : Type 0} → (X → Carstamp) → List X → Carstamp → Bool
is_held stamp_of xs stamp = majority_passes (λ x. stamp_le stamp (stamp_of x)) xs

-- of the stamps that some members hold, the greatest that a majority of all holds; the opening one where there is none
abbrev pub greatest_held : {X : Type 0} → (X → Carstamp) → List X → List X → Carstamp
greatest_held stamp_of all [] = opening_stamp
greatest_held stamp_of all (x ∷ some) =
    if is_held stamp_of all (stamp_of x)
    then greater_stamp (stamp_of x) (greatest_held stamp_of all some)
    else greatest_held stamp_of all some

-- the greatest stamp that a majority holds
abbrev pub majority_stamp : {X : Type 0} → (X → Carstamp) → List X → Carstamp
majority_stamp stamp_of xs = greatest_held stamp_of xs xs
