-- readers of a configuration: total, with a value of no meaning where there is no such number
use Rattle.std.specs.Prelude.{ℕ, ◌-◌, if◌then◌else◌, List, [], ◌∷◌, get_or}
use Rattle.rss_names.specs.declared.service.ServiceId.{ServiceId}
use Rattle.rss_names.specs.declared.service.ServiceId.TheVariants.{Txn, Reg}
use Rattle.rss_names.specs.declared.service.Key.{Key}
use Rattle.rss_names.specs.Services.{same_service}
use Rattle.pipeline_lang.specs.declared.config.Config.{Config}
use Rattle.pipeline_lang.specs.declared.config.ServiceDef.{ServiceDef}
use Rattle.pipeline_lang.specs.declared.config.PipeEnds.{PipeEnds}
use Rattle.pipeline_lang.specs.declared.config.Body.{Body}
use Rattle.pipeline_lang.specs.declared.script.Statement.{Statement}
use Rattle.pipeline_lang.specs.declared.script.Statement.TheVariants.{Exit}

-- the name of a stage, by its number from 1
abbrev pub stage_name : Config → ℕ → List ℕ
stage_name c number = get_or c.stages (number - 1) []

-- the name of a shard, by its number from 1
abbrev pub shard_name : Config → ℕ → List ℕ
shard_name c number = get_or c.shards (number - 1) []

-- the name of a pipe, by its number from 1
abbrev pub pipe_name : Config → ℕ → List ℕ
pipe_name c number = get_or c.pipes (number - 1) []

-- the name of a register, by its index from 0
abbrev pub register_name : Config → ℕ → List ℕ
register_name c index = get_or c.registers index []

-- the name of a transaction service's key, by its index from 0
abbrev pub shard_key_name : Config → ℕ → List ℕ
shard_key_name c index = get_or c.keys index []

-- the name at an index among the keys, or among the registers, by the kind of the service
abbrev pub name_within : Config → ℕ → ServiceId → List ℕ
name_within c index (Txn number) = shard_key_name c index
name_within c index (Reg number) = register_name c index

-- the name of a key or register
abbrev pub key_name : Config → Key → List ℕ
key_name c key = name_within c key.index key.service

-- the service of a register, by its index from 0
abbrev pub service_of_register : Config → ℕ → ServiceId
service_of_register c index = get_or c.register_services index (Reg 0)

-- the service of a shard, by its number from 1
abbrev pub service_of_shard : Config → ℕ → ServiceId
service_of_shard c number = get_or c.shard_services (number - 1) (Txn 0)

-- the number of the shard of a transaction service's key, by the key's index from 0
abbrev pub home_of : Config → ℕ → ℕ
home_of c index = get_or c.homes index 0

-- what a stage that is not there runs
abbrev pub no_body : Body
no_body = record { script = []; earliest_end = 0 }

-- what a stage runs, by its number from 1
abbrev pub body_of : Config → ℕ → Body
body_of c number = get_or c.bodies (number - 1) no_body

-- the script of a stage, by its number from 1
abbrev pub script_of : Config → ℕ → List (Statement ℕ Key ℕ ℕ)
script_of c number = (body_of c number).script

-- the statement at a place of a stage's script, from 0: `exit` stands behind the last one
abbrev pub statement_at : Config → ℕ → ℕ → Statement ℕ Key ℕ ℕ
statement_at c number place = get_or (script_of c number) place Exit

-- the ends of a pipe that is not there
abbrev pub no_ends : PipeEnds
no_ends = record { giver = 0; taker = 0; capacity = 0 }

-- the ends of a pipe, by its number from 1
abbrev pub ends_of : Config → ℕ → PipeEnds
ends_of c number = get_or c.pipe_ends (number - 1) no_ends

-- the number of replicas of a service among services, 0 where it is none of them
abbrev pub replicas_among : ServiceId → List ServiceDef → ℕ
replicas_among id [] = 0
replicas_among id (d ∷ ds) = if same_service id d.id then d.replicas else replicas_among id ds

-- the number of replicas of a service, 0 where the service has none or is not there
abbrev pub replicas_of : Config → ServiceId → ℕ
replicas_of c id = replicas_among id c.services

-- the name of a service among services, empty where it is none of them
abbrev pub service_name_among : ServiceId → List ServiceDef → List ℕ
service_name_among id [] = []
service_name_among id (d ∷ ds) = if same_service id d.id then d.name else service_name_among id ds

-- the name of a service
abbrev pub service_name : Config → ServiceId → List ℕ
service_name c id = service_name_among id c.services
