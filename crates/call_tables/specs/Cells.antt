-- A table of all keys as rows of cells: a row for each service, and in it a cell for each index.
use Rattle.std.specs.Prelude.{ℕ, ◌+◌, ◌*◌, ◌==◌, List, [], get_or, if◌then◌else◌}
use Rattle.rss_names.specs.declared.service.Key.{Key}
use Rattle.rss_names.specs.declared.service.ServiceId.{ServiceId}
use Rattle.rss_names.specs.declared.service.ServiceId.TheVariants.{Txn, Reg}
use Rattle.rss_model.specs.Legal.{Table}
use Rattle.call_tables.specs.declared.cells.Cell.{Cell}

-- what is shown of a key that was never written
abbrev pub no_cell : Cell
no_cell = record { value = 0; writer = 0 }

-- what a row holds of an index
abbrev pub cell_in : List Cell → ℕ → Cell
cell_in row index = get_or row index no_cell

-- a row after a cell is put at an index, as seen at an index
abbrev pub cell_after : List Cell → ℕ → Cell → ℕ → Cell
cell_after row index cell at = if index == at then cell else cell_in row at

-- the place of the row of a service
abbrev pub row_place : ServiceId → ℕ
row_place (Txn number) = 2 * number
row_place (Reg number) = 2 * number + 1

-- the row at a place
abbrev pub row_in : List (List Cell) → ℕ → List Cell
row_in rows place = get_or rows place []

-- what rows hold of a key
abbrev pub cell_of : List (List Cell) → Key → Cell
cell_of rows key = cell_in (row_in rows (row_place key.service)) key.index

-- the table that rows hold
abbrev pub table_in : List (List Cell) → Table
table_in rows key = record { key = key; value = (cell_of rows key).value; writer = (cell_of rows key).writer }
