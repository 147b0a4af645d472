-- A walk along an order of calls: the table that the calls before a place have made.
use Rattle.std.specs.Prelude.{◌≡◌, ℕ, ◌≤◌, List, length}
use Rattle.rss_names.specs.declared.service.Key.{Key}
use Rattle.rss_model.specs.declared.history.Entry.{Entry}
use Rattle.rss_model.specs.Legal.{table_at}
use Rattle.call_tables.specs.declared.cells.Cell.{Cell}
use Rattle.call_tables.specs.Cells.{table_in}
use Rattle.call_tables.specs.declared.walk.Walk.{Walk}

-- rows hold the table at a place
abbrev pub HoldsTable : List Entry → List ℕ → ℕ → List (List Cell) → Type 0
HoldsTable h order place rows = (key : Key) → table_in rows key ≡ table_at h order place key

-- a walk stands at its place of an order
pub record IsWalk (h : List Entry) (order : List ℕ) (walk : Walk) : Type 0 where
  pub table : HoldsTable h order walk.place walk.rows.items
