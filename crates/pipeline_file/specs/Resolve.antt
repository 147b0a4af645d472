-- What the names in the tables of a file mean. A name that names nothing of its kind is told at its place.
use Rattle.std.specs.Prelude.{ℕ, ◌+◌, ◌&&◌, ◌==◌, nat_le, nat_lt, List, [], ◌∷◌, codes, Option, Some, None, Result, Ok, Err, cond}
use Rattle.std.specs.Option.{unwrap_or}
use Rattle.std.specs.Str.{bytes_eq}
use Rattle.rss_names.specs.declared.service.ServiceId.{ServiceId}
use Rattle.rss_names.specs.declared.service.Target.{Target}
use Rattle.rss_names.specs.declared.service.Target.TheVariants as target
use Rattle.pipeline_lang.specs.Positions.{position_of}
use Rattle.pipeline_lang.specs.declared.config.ServiceDef.{ServiceDef}
use Rattle.pipeline_lang.specs.declared.config.PipeEnds.{PipeEnds}
use Rattle.pipeline_lang.specs.declared.config.Withhold.{Withhold}
use Rattle.pipeline_lang.specs.declared.config.KillAt.{KillAt}
use Rattle.pipeline_tables.specs.declared.fault.FaultKind.TheVariants.{UnknownName, PipeShape}
use Rattle.pipeline_tables.specs.declared.fault.Table.TheVariants as table
use Rattle.pipeline_tables.specs.declared.fault.FileKey.TheVariants as key
use Rattle.pipeline_tables.specs.declared.fault.Place.{Place}
use Rattle.pipeline_tables.specs.declared.fault.FileFault.{FileFault}
use Rattle.pipeline_tables.specs.declared.tables.FileTables.{FileTables}
use Rattle.pipeline_tables.specs.declared.tables.ShardTable.{ShardTable}
use Rattle.pipeline_tables.specs.declared.tables.PipeTable.{PipeTable}
use Rattle.pipeline_tables.specs.declared.tables.WithholdTable.{WithholdTable}
use Rattle.pipeline_tables.specs.declared.tables.KillTable.{KillTable}
use Rattle.pipeline_tables.specs.declared.tables.ServiceKind.TheVariants.{Txn, Reg}
use Rattle.pipeline_tables.specs.declared.tables.TargetName.{TargetName}
use Rattle.pipeline_tables.specs.declared.tables.TargetName.TheVariants as named
use Rattle.pipeline_tables.specs.Faults.{◌>>=◌, key_place, fault}
use Rattle.pipeline_tables.specs.Lists.{onto}
use Rattle.pipeline_file.specs.declared.resolve.Known.{Known}
use Rattle.pipeline_file.specs.declared.resolve.Resolved.{Resolved}
use Rattle.pipeline_file.specs.Services.{is_of}

-- a name that names nothing
abbrev pub unknown : {A : Type 0} → Place → Result A FileFault
unknown at = Err (fault UnknownName at)

-- the number, from 1, at a position; only 16 have one
abbrev pub numbered : Place → Option ℕ → Result ℕ FileFault
numbered at (Some i) = cond (nat_lt i 16) (Ok (i + 1)) (unknown at)
numbered at None = unknown at

-- the number of a stage, or of a shard
unfoldable pub number_in : List (List ℕ) → Place → List ℕ → Result ℕ FileFault
number_in names at name = numbered at (position_of name names)

-- the service of a name
unfoldable pub service_named : List ServiceDef → List ℕ → Option ServiceDef
service_named [] name = None
service_named (d ∷ ds) name = cond (bytes_eq name d.name) (Some d) (service_named ds name)

-- a service of kind txn
abbrev pub txn_service : Place → Option ServiceDef → Result ServiceId FileFault
txn_service at (Some d) = cond (is_of Txn d.id) (Ok d.id) (unknown at)
txn_service at None = unknown at

-- the service of a shard, which is `txn` where the file tells none
unfoldable pub shard_service : Known → ℕ → ShardTable → Result ServiceId FileFault
shard_service known n t = txn_service (key_place table.Shard n key.Service) (service_named known.services (unwrap_or t.service (codes "txn")))

-- the ends of a pipe
unfoldable pub pipe_ends : Known → ℕ → PipeTable → Result PipeEnds FileFault
pipe_ends known n t = do
  giver ← number_in known.stages (key_place table.Pipe n key.From) t.from
  taker ← number_in known.stages (key_place table.Pipe n key.To) t.to
  Ok (record { giver = giver; taker = taker; capacity = t.capacity })

-- a replica of a service of kind reg
abbrev pub replica_in : Place → ℕ → Option ServiceDef → Result Target FileFault
replica_in at number (Some d) = cond (is_of Reg d.id && nat_le 1 number && nat_le number 7 && nat_le number d.replicas) (Ok (target.Replica d.id number)) (unknown at)
replica_in at number None = unknown at

-- a target; a replica's service is `reg` where the file tells none
unfoldable pub target_named : Known → Place → TargetName → Result Target FileFault
target_named known at (named.Shard name) = number_in known.shards at name >>= λ n. Ok (target.Shard n)
target_named known at (named.Replica number service) = replica_in at number (service_named known.services (unwrap_or service (codes "reg")))

-- what a withhold says
unfoldable pub withhold_said : Known → ℕ → WithholdTable → Result Withhold FileFault
withhold_said known n t = do
  stage ← number_in known.stages (key_place table.Withhold n key.Stage) t.stage
  target ← target_named known (key_place table.Withhold n key.Target) t.target
  Ok (record { stage = stage; target = target; first = t.from; count = t.count })

-- what a kill says
unfoldable pub kill_said : Known → ℕ → KillTable → Result KillAt FileFault
kill_said known n t = do
  stage ← number_in known.stages (key_place table.Kill n key.Stage) t.stage
  Ok (record { stage = stage; act = t.act })

-- what the tables of an array mean; the first has this number
unfoldable pub each_from : {A B : Type 0} → (ℕ → A → Result B FileFault) → ℕ → List A → Result (List B) FileFault
each_from means n [] = Ok []
each_from means n (row ∷ rows) = means n row >>= λ meaning. onto (meaning ∷ []) (each_from means (n + 1) rows)

-- no pipe leads from a stage to itself; the first pipe has this number
unfoldable pub no_loops : ℕ → List PipeEnds → Result (Unit {0}) FileFault
no_loops n [] = Ok tt
no_loops n (p ∷ ps) = cond (p.giver == p.taker) (Err (fault PipeShape (key_place table.Pipe n key.To))) (no_loops (n + 1) ps)

-- what all names mean: names that name nothing come first, then the shapes of pipes
unfoldable pub resolved_of : Known → FileTables → Result Resolved FileFault
resolved_of known t = do
  services ← each_from (shard_service known) 1 t.shards
  ends ← each_from (pipe_ends known) 1 t.pipes
  withholds ← each_from (withhold_said known) 1 t.withholds
  kills ← each_from (kill_said known) 1 t.kills
  shaped ← no_loops 1 ends
  Ok (record { shard_services = services; pipe_ends = ends; withholds = withholds; kills = kills })
