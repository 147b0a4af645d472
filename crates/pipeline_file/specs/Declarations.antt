-- The names that a file declares, each where it does.
use Rattle.std.specs.Prelude.{ℕ, ◌+◌, List, [], ◌∷◌, ◌++◌, map, codes}
use Rattle.pipeline_tables.specs.declared.fault.Table.TheVariants as table
use Rattle.pipeline_tables.specs.declared.fault.FileKey.TheVariants as key
use Rattle.pipeline_tables.specs.declared.fault.Place.{Place}
use Rattle.pipeline_tables.specs.Faults.{key_place}
use Rattle.pipeline_tables.specs.declared.tables.FileTables.{FileTables}
use Rattle.pipeline_tables.specs.declared.tables.ShardTable.{ShardTable}
use Rattle.pipeline_tables.specs.declared.tables.PipeTable.{PipeTable}
use Rattle.pipeline_tables.specs.declared.tables.StageTable.{StageTable}
use Rattle.pipeline_tables.specs.declared.tables.KillTable.{KillTable}
use Rattle.pipeline_tables.specs.declared.tables.ServiceTable.{ServiceTable}
use Rattle.pipeline_file.specs.declared.declaration.NameKind.{NameKind}
use Rattle.pipeline_file.specs.declared.declaration.NameKind.TheVariants.{Register, Shard, Key, Pipe, Stage, Killed, Service}
use Rattle.pipeline_file.specs.declared.declaration.Declaration.{Declaration}

-- a name of a kind at a place
abbrev pub declare : NameKind → Place → List ℕ → Declaration
declare kind place name = record { kind = kind; name = name; place = place }

-- names of a kind at one place
abbrev pub declare_all : NameKind → Place → List (List ℕ) → List Declaration
declare_all kind place names = map (declare kind place) names

-- what a service declares: its registers and its name
abbrev pub service_declares : ℕ → ServiceTable → List Declaration
service_declares n t = declare_all Register (key_place table.Service n key.Registers) t.registers ++ declare Service (key_place table.Service n key.Name) t.name ∷ []

-- what a shard declares: its name and its keys
abbrev pub shard_declares : ℕ → ShardTable → List Declaration
shard_declares n t = declare Shard (key_place table.Shard n key.Name) t.name ∷ declare_all Key (key_place table.Shard n key.Keys) t.keys

-- what a pipe declares
abbrev pub pipe_declares : ℕ → PipeTable → List Declaration
pipe_declares n t = declare Pipe (key_place table.Pipe n key.Name) t.name ∷ []

-- what a stage declares
abbrev pub stage_declares : ℕ → StageTable → List Declaration
stage_declares n t = declare Stage (key_place table.Stage n key.Name) t.name ∷ []

-- what a kill declares: that the stage is killed
abbrev pub kill_declares : ℕ → KillTable → List Declaration
kill_declares n t = declare Killed (key_place table.Kill n key.Stage) t.stage ∷ []

-- what the tables of an array declare; the first has this number
abbrev pub gather : {A : Type 0} → (ℕ → A → List Declaration) → ℕ → List A → List Declaration
gather declares n [] = []
gather declares n (row ∷ rows) = declares n row ++ gather declares (n + 1) rows

-- what stands in no file: the services `txn` and `reg`
abbrev pub built_in : List Declaration
built_in = declare Service (key_place table.File 0 key.Absent) (codes "txn") ∷ declare Service (key_place table.File 0 key.Absent) (codes "reg") ∷ []

-- all that a file declares: registers and services, then shards with their keys, pipes, stages and kills
unfoldable pub declarations : FileTables → List Declaration
declarations t =
    built_in ++ declare_all Register (key_place table.Root 0 key.Registers) t.root.registers ++ gather service_declares 1 t.services
    ++ gather shard_declares 1 t.shards ++ gather pipe_declares 1 t.pipes ++ gather stage_declares 1 t.stages ++ gather kill_declares 1 t.kills
