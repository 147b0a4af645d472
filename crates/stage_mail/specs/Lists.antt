-- Lists of numbers that ascend, one for each stage.
use Rattle.std.specs.Prelude.{◌≡◌, ℕ, suc, ◌+◌, ◌<◌, ◌≤◌, ◌==◌, ◌&&◌, Bool, true, List, [], ◌∷◌, length, get_or, Option, Some, None, nat_le, if◌then◌else◌}

-- the numbers of one stage, and for how many the list has memory
pub record DueView : Type 0 where
  pub numbers : List ℕ
  pub capacity : ℕ

-- the list of a stage that is not there
abbrev pub no_due : DueView
no_due = record { numbers = []; capacity = 0 }

-- the list at a place; that of stage 1 stands at place 0
abbrev pub list_at : List DueView → ℕ → DueView
list_at lists place = get_or lists place no_due

-- whether each number is at least this one and above the one before it
abbrev pub rises_from : ℕ → List ℕ → Bool
rises_from least [] = true
rises_from least (x ∷ xs) = nat_le least x && rises_from (suc x) xs

-- a number is taken out, where it first stands
abbrev pub without : ℕ → List ℕ → List ℕ
without number [] = []
without number (x ∷ xs) = if x == number then xs else x ∷ without number xs

-- the first of some numbers
abbrev pub first_of : List ℕ → Option ℕ
first_of [] = None
first_of (x ∷ xs) = Some x

-- the lists of all stages are the same but for their memory, of which each has as much as before
pub record AreGrown (old new : List DueView) : Type 0 where
  pub same : (place : ℕ) → (list_at new place).numbers ≡ (list_at old place).numbers
  pub more : (place : ℕ) → (list_at old place).capacity ≤ (list_at new place).capacity

-- the first lists have room for so many more numbers
pub record HaveRoom (many room : ℕ) (lists : List DueView) : Type 0 where
  pub fits : (place : ℕ) → place < many → length (list_at lists place).numbers + room ≤ (list_at lists place).capacity
