-- what a table of names says
use Rattle.std.specs.Prelude.{ℕ, Bool, List, Option, position}
use Rattle.std.specs.List.{list_any}
use Rattle.std.specs.Str.{bytes_eq}

-- whether a table has a name
abbrev pub has_name : List ℕ → List (List ℕ) → Bool
has_name name table = list_any (bytes_eq name) table

-- the first position of a name in a table, from 0, if it has one
abbrev pub position_of : List ℕ → List (List ℕ) → Option ℕ
position_of name table = position (bytes_eq name) table
