-- How many bytes a call takes, and which.
use Rattle.std.specs.Prelude.{◌≡◌, ℕ, ◌<◌, ◌≤◌, List, length, take, Option, Result, IfOk}
use Rattle.std.specs.Io.KnownBytes.{Appends, Consumes}

-- a sink takes at most the piece, and at least a byte of a piece that is not empty
abbrev pub TakesSome : {E : Type 0} → Result ℕ E → List ℕ → Type 0
TakesSome result piece = IfOk result (λ n. (n ≤ length piece) × (0 < length piece → 0 < n))

-- just as many bytes as said were taken off the front of a source's known bytes
pub record TakesExactly (old new : Option (List ℕ)) (count : ℕ) : Type 0 where
  pub taken : List ℕ
  pub count_is : length taken ≡ count
  pub consumes : Consumes old new taken

-- at most as many bytes as said were taken off the front of a source's known bytes
pub record TakesAtMost (old new : Option (List ℕ)) (most : ℕ) : Type 0 where
  pub taken : List ℕ
  pub bound : length taken ≤ most
  pub consumes : Consumes old new taken

-- a sink's known bytes grew by a front of these bytes, and by nothing else
pub record AppendsFront (old new : Option (List ℕ)) (bytes : List ℕ) : Type 0 where
  pub count : ℕ
  pub appends : Appends old new (take count bytes)
