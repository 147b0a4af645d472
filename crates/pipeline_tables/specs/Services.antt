-- The tables of further services, and all tables of a file.
use Rattle.std.specs.Prelude.{ℕ, ◌+◌, ◌-◌, List, [], ◌∷◌, length, Result, Ok}
use Rattle.toml.specs.Data.{Items, no_items, item, Members}
use Rattle.pipeline_tables.specs.declared.fault.Place.{Place}
use Rattle.pipeline_tables.specs.declared.fault.Table.TheVariants as table
use Rattle.pipeline_tables.specs.declared.fault.FileKey.{FileKey}
use Rattle.pipeline_tables.specs.declared.fault.FileKey.TheVariants as key
use Rattle.pipeline_tables.specs.declared.fault.FileFault.{FileFault}
use Rattle.pipeline_tables.specs.declared.tables.RootTable.{RootTable}
use Rattle.pipeline_tables.specs.declared.tables.ServiceTable.{ServiceTable}
use Rattle.pipeline_tables.specs.declared.tables.FileTables.{FileTables}
use Rattle.pipeline_tables.specs.Faults.{◌>>=◌, key_place}
use Rattle.pipeline_tables.specs.Lists.{onto, row_in, rows_from, tables_at, tables_or_none}
use Rattle.pipeline_tables.specs.Rows.{root_of, shard_of, pipe_of, stage_of, withhold_of, kill_of, service_of}

-- further services; the first has this number, and the file has room for so many registers
unfoldable pub services_from : RootTable → Place → ℕ → ℕ → Items → Result (List ServiceTable) FileFault
services_from root at room n no_items = Ok []
services_from root at room n (item value items) = row_in (service_of root room) at n value >>= λ row. onto (row ∷ []) (services_from root at (room - length row.registers) (n + 1) items)

-- where an array of tables stands
abbrev pub array_place : FileKey → Place
array_place key = key_place table.Root 0 key

-- the rows of an array of tables that need not be there
unfoldable pub rows_or_none : {A : Type 0} → (ℕ → Members → Result A FileFault) → ℕ → FileKey → Members → Result (List A) FileFault
rows_or_none says most key members = tables_or_none most (array_place key) members >>= rows_from says (array_place key) 1

-- the rows of an array of one table at least
unfoldable pub rows_at : {A : Type 0} → (ℕ → Members → Result A FileFault) → ℕ → FileKey → Members → Result (List A) FileFault
rows_at says most key members = tables_at 1 most (array_place key) members >>= rows_from says (array_place key) 1

-- the further services
unfoldable pub further_services : RootTable → Members → Result (List ServiceTable) FileFault
further_services root members = tables_or_none 6 (array_place key.Service) members >>= services_from root (array_place key.Service) (64 - length root.registers) 1

-- all tables, in the order of checking: the root's own keys, then array by array
unfoldable pub tables_said : Members → Result FileTables FileFault
tables_said members = do
  root ← root_of members
  shards ← rows_or_none (shard_of root) 16 key.Shard members
  pipes ← rows_or_none (pipe_of root) 16 key.Pipe members
  stages ← rows_at (stage_of root) 16 key.Stage members
  withholds ← rows_or_none (withhold_of root) 64 key.Withhold members
  kills ← rows_or_none (kill_of root) 16 key.Kill members
  services ← further_services root members
  Ok (record { root = root; shards = shards; pipes = pipes; stages = stages; withholds = withholds; kills = kills; services = services })
