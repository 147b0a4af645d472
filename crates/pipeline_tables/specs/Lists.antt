-- Lists of names, and arrays of tables: each member is tested before the number of members.
use Rattle.std.specs.Prelude.{ℕ, suc, ◌+◌, Bool, true, ◌&&◌, nat_le, List, [], ◌∷◌, ◌++◌, length, Option, Some, None, Result, Ok, Err, cond, is_some}
use Rattle.toml.specs.Data.{Data, Items, no_items, item, Members, as_array, as_table}
use Rattle.pipeline_tables.specs.declared.fault.FaultKind.TheVariants.{OverLimit, WrongKind}
use Rattle.pipeline_tables.specs.declared.fault.Place.{Place}
use Rattle.pipeline_tables.specs.declared.fault.FileFault.{FileFault}
use Rattle.pipeline_tables.specs.Faults.{◌>>=◌, fault}
use Rattle.pipeline_tables.specs.Keys.{value_at}
use Rattle.pipeline_tables.specs.Values.{required, or_default, name_of}

-- these values before others
abbrev pub onto : {A : Type 0} → List A → Result (List A) FileFault → Result (List A) FileFault
onto xs (Ok ys) = Ok (xs ++ ys)
onto xs (Err first) = Err first

-- an array
abbrev pub some_items : Place → Option Items → Result Items FileFault
some_items at (Some items) = Ok items
some_items at None = Err (fault WrongKind at)

-- names
unfoldable pub names_of : Place → Items → Result (List (List ℕ)) FileFault
names_of at no_items = Ok []
names_of at (item value items) = name_of at value >>= λ name. onto (name ∷ []) (names_of at items)

-- names, from least to most of them
abbrev pub so_many : ℕ → ℕ → Place → List (List ℕ) → Result (List (List ℕ)) FileFault
so_many least most at names = cond (nat_le least (length names) && nat_le (length names) most) (Ok names) (Err (fault OverLimit at))

-- a list of names
unfoldable pub name_list : ℕ → ℕ → Place → Data → Result (List (List ℕ)) FileFault
name_list least most at value = some_items at (as_array value) >>= names_of at >>= so_many least most at

-- a list of names at a key that must be there
unfoldable pub names_at : ℕ → ℕ → Place → Members → Result (List (List ℕ)) FileFault
names_at least most at members = required at (value_at at.key members) >>= name_list least most at

-- a list of names at a key whose default is the empty list
unfoldable pub names_or_none : ℕ → Place → Members → Result (List (List ℕ)) FileFault
names_or_none most at members = or_default [] (name_list 0 most at) (value_at at.key members)

-- how many items there are
unfoldable pub item_count : Items → ℕ
item_count no_items = 0
item_count (item value items) = suc (item_count items)

-- whether all items are tables
unfoldable pub all_tables : Items → Bool
all_tables no_items = true
all_tables (item value items) = is_some (as_table value) && all_tables items

-- tables, from least to most of them
abbrev pub tables_in : ℕ → ℕ → Place → Items → Result Items FileFault
tables_in least most at items = cond (all_tables items) (cond (nat_le least (item_count items) && nat_le (item_count items) most) (Ok items) (Err (fault OverLimit at))) (Err (fault WrongKind at))

-- an array of tables
unfoldable pub tables_of : ℕ → ℕ → Place → Data → Result Items FileFault
tables_of least most at value = some_items at (as_array value) >>= tables_in least most at

-- an array of tables at a key that must be there
unfoldable pub tables_at : ℕ → ℕ → Place → Members → Result Items FileFault
tables_at least most at root = required at (value_at at.key root) >>= tables_of least most at

-- an array of tables at a key that need not be there
unfoldable pub tables_or_none : ℕ → Place → Members → Result Items FileFault
tables_or_none most at root = or_default no_items (tables_of 0 most at) (value_at at.key root)

-- a table
abbrev pub some_members : Place → Option Members → Result Members FileFault
some_members at (Some members) = Ok members
some_members at None = Err (fault WrongKind at)

-- what the table that a value is says, where a table of a number says so
abbrev pub row_in : {A : Type 0} → (ℕ → Members → Result A FileFault) → Place → ℕ → Data → Result A FileFault
row_in says at n value = some_members at (as_table value) >>= says n

-- what the tables of an array say; the first has this number
unfoldable pub rows_from : {A : Type 0} → (ℕ → Members → Result A FileFault) → Place → ℕ → Items → Result (List A) FileFault
rows_from says at n no_items = Ok []
rows_from says at n (item value items) = row_in says at n value >>= λ row. onto (row ∷ []) (rows_from says at (n + 1) items)
