-- The input's two parts: the file, and the step text behind the first line `%steps`.
use Rattle.std.specs.Prelude.{◌≡◌, ◌⊎◌, ℕ, zero, suc, ◌+◌, ◌<◌, Bool, true, false, ◌&&◌, ◌||◌, ◌==◌, nat_eq, List, [], length, take, drop, slice_index, codes}
use Rattle.std.specs.List.{starts_with}

-- a line begins at this position
abbrev pub line_begins : List ℕ → ℕ → Bool
line_begins input zero = true
line_begins input (suc before) = slice_index input before == 10

-- a line ends before this position, with a newline or with the input
abbrev pub line_ends : List ℕ → ℕ → Bool
line_ends input at = at == length input || slice_index input at == 10

-- the line `%steps` stands at this position
unfoldable pub is_mark : List ℕ → ℕ → Bool
is_mark input at = starts_with nat_eq (drop at input) (codes "%steps") && line_begins input at && line_ends input (at + 6)

-- the first line `%steps` stands at this position
pub record IsFirstMark (input : List ℕ) (at : ℕ) : Type 0 where
  pub within : at < length input
  pub here : is_mark input at ≡ true
  pub first : (k : ℕ) → k < at → is_mark input k ≡ false

-- a line `%steps` ends the file, and the step text stands behind it
pub record IsMarked (input file steps : List ℕ) : Type 0 where
  pub at : ℕ
  pub mark : IsFirstMark input at
  pub file_is : file ≡ take at input
  pub steps_is : steps ≡ drop (at + 7) input

-- no line is `%steps`: all is the file, and there are no steps
pub record IsUnmarked (input file steps : List ℕ) : Type 0 where
  pub none : (k : ℕ) → k < length input → is_mark input k ≡ false
  pub file_is : file ≡ input
  pub steps_is : steps ≡ []

-- an input's parts
abbrev pub Splits : List ℕ → List ℕ → List ℕ → Type 0
Splits input file steps = IsMarked input file steps ⊎ IsUnmarked input file steps
