-- What each table of a pipeline file says: an unknown key first, then the keys in this order.
use Rattle.std.specs.Prelude.{ℕ, List, [], ◌∷◌, codes, Result, Ok, Err, cond}
use Rattle.std.specs.Str.{bytes_eq}
use Rattle.toml.specs.Data.{Members}
use Rattle.pipeline_tables.specs.declared.fault.FaultKind.TheVariants.{WrongKind}
use Rattle.pipeline_tables.specs.declared.fault.Table.TheVariants as table
use Rattle.pipeline_tables.specs.declared.fault.FileKey.TheVariants as key
use Rattle.pipeline_tables.specs.declared.fault.Place.{Place}
use Rattle.pipeline_tables.specs.declared.fault.FileFault.{FileFault}
use Rattle.pipeline_tables.specs.declared.tables.RootTable.{RootTable}
use Rattle.pipeline_tables.specs.declared.tables.ShardTable.{ShardTable}
use Rattle.pipeline_tables.specs.declared.tables.PipeTable.{PipeTable}
use Rattle.pipeline_tables.specs.declared.tables.StageTable.{StageTable}
use Rattle.pipeline_tables.specs.declared.tables.WithholdTable.{WithholdTable}
use Rattle.pipeline_tables.specs.declared.tables.KillTable.{KillTable}
use Rattle.pipeline_tables.specs.declared.tables.ServiceTable.{ServiceTable}
use Rattle.pipeline_tables.specs.declared.tables.ServiceKind.{ServiceKind}
use Rattle.pipeline_tables.specs.declared.tables.ServiceKind.TheVariants.{Txn, Reg}
use Rattle.pipeline_tables.specs.Faults.{◌>>=◌, key_place, fault}
use Rattle.pipeline_tables.specs.Keys.{only_keys}
use Rattle.pipeline_tables.specs.Values.{number_at, number_or, optional_number, replicas_or, text_at, name_at, optional_name}
use Rattle.pipeline_tables.specs.Targets.{target_at}
use Rattle.pipeline_tables.specs.Lists.{names_at, names_or_none}

-- the root
unfoldable pub root_of : Members → Result RootTable FileFault
root_of members = do
  known ← only_keys (key.Tries ∷ key.MaxSteps ∷ key.EarliestEnd ∷ key.Replicas ∷ key.Registers ∷ key.Drivers ∷ key.Shard ∷ key.Pipe ∷ key.Stage ∷ key.Withhold ∷ key.Kill ∷ key.Service ∷ []) table.Root 0 members
  tries ← number_or 3 1 8 (key_place table.Root 0 key.Tries) members
  max_steps ← number_or 100000 1 200000 (key_place table.Root 0 key.MaxSteps) members
  earliest_end ← number_or 2000 0 1000000 (key_place table.Root 0 key.EarliestEnd) members
  replicas ← replicas_or 3 (key_place table.Root 0 key.Replicas) members
  registers ← names_or_none 64 (key_place table.Root 0 key.Registers) members
  drivers ← optional_number 1 16 (key_place table.Root 0 key.Drivers) members
  Ok (record { tries = tries; max_steps = max_steps; earliest_end = earliest_end; replicas = replicas; registers = registers; drivers = drivers })

-- a shard
unfoldable pub shard_of : RootTable → ℕ → Members → Result ShardTable FileFault
shard_of root n members = do
  known ← only_keys (key.Name ∷ key.Keys ∷ key.Service ∷ []) table.Shard n members
  name ← name_at (key_place table.Shard n key.Name) members
  keys ← names_at 1 64 (key_place table.Shard n key.Keys) members
  service ← optional_name (key_place table.Shard n key.Service) members
  Ok (record { name = name; keys = keys; service = service })

-- a pipe
unfoldable pub pipe_of : RootTable → ℕ → Members → Result PipeTable FileFault
pipe_of root n members = do
  known ← only_keys (key.Name ∷ key.From ∷ key.To ∷ key.Capacity ∷ []) table.Pipe n members
  name ← name_at (key_place table.Pipe n key.Name) members
  from ← name_at (key_place table.Pipe n key.From) members
  to ← name_at (key_place table.Pipe n key.To) members
  capacity ← number_or 1 1 64 (key_place table.Pipe n key.Capacity) members
  Ok (record { name = name; from = from; to = to; capacity = capacity })

-- a stage; `earliest_end` is the root's where it has none
unfoldable pub stage_of : RootTable → ℕ → Members → Result StageTable FileFault
stage_of root n members = do
  known ← only_keys (key.Name ∷ key.Script ∷ key.EarliestEnd ∷ []) table.Stage n members
  name ← name_at (key_place table.Stage n key.Name) members
  script ← text_at (key_place table.Stage n key.Script) members
  earliest_end ← number_or root.earliest_end 0 1000000 (key_place table.Stage n key.EarliestEnd) members
  Ok (record { name = name; script = script; earliest_end = earliest_end })

-- a withhold
unfoldable pub withhold_of : RootTable → ℕ → Members → Result WithholdTable FileFault
withhold_of root n members = do
  known ← only_keys (key.Stage ∷ key.Target ∷ key.From ∷ key.Count ∷ []) table.Withhold n members
  stage ← name_at (key_place table.Withhold n key.Stage) members
  target ← target_at (key_place table.Withhold n key.Target) members
  from ← number_at 1 200000 (key_place table.Withhold n key.From) members
  count ← number_at 1 200000 (key_place table.Withhold n key.Count) members
  Ok (record { stage = stage; target = target; from = from; count = count })

-- a kill
unfoldable pub kill_of : RootTable → ℕ → Members → Result KillTable FileFault
kill_of root n members = do
  known ← only_keys (key.Stage ∷ key.Act ∷ []) table.Kill n members
  stage ← name_at (key_place table.Kill n key.Stage) members
  act ← number_at 1 200000 (key_place table.Kill n key.Act) members
  Ok (record { stage = stage; act = act })

-- the kind that a text says
abbrev pub kind_in : Place → List ℕ → Result ServiceKind FileFault
kind_in at text = cond (bytes_eq text (codes "txn")) (Ok Txn) (cond (bytes_eq text (codes "reg")) (Ok Reg) (Err (fault WrongKind at)))

-- the kind of a service at a key that must be there
unfoldable pub kind_at : Place → Members → Result ServiceKind FileFault
kind_at at members = text_at at members >>= kind_in at

-- how many registers a service of a kind may have, where the file has room for so many
abbrev pub most_registers : ServiceKind → ℕ → ℕ
most_registers Txn room = 0
most_registers Reg room = room

-- a service, where the file has room for so many registers
unfoldable pub service_of : RootTable → ℕ → ℕ → Members → Result ServiceTable FileFault
service_of root room n members = do
  known ← only_keys (key.Name ∷ key.Kind ∷ key.Registers ∷ key.Replicas ∷ []) table.Service n members
  name ← name_at (key_place table.Service n key.Name) members
  kind ← kind_at (key_place table.Service n key.Kind) members
  registers ← names_or_none (most_registers kind room) (key_place table.Service n key.Registers) members
  replicas ← replicas_or root.replicas (key_place table.Service n key.Replicas) members
  Ok (record { name = name; kind = kind; registers = registers; replicas = replicas })
