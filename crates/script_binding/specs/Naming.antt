-- what the script of one stage can name
use Rattle.std.specs.Prelude.{ℕ, ◌+◌, ◌-◌, if◌then◌else◌, Bool, false, ◌==◌, nat_lt, List, get_or, slice_get, Option, Some, None, option_map, option_and_then}
use Rattle.rss_names.specs.declared.service.ServiceId.{ServiceId}
use Rattle.rss_names.specs.declared.service.ServiceId.TheVariants.{Txn, Reg}
use Rattle.rss_names.specs.declared.service.Key.{Key}
use Rattle.pipeline_lang.specs.declared.config.Config.{Config}
use Rattle.pipeline_lang.specs.declared.config.PipeEnds.{PipeEnds}
use Rattle.pipeline_lang.specs.Positions.{position_of}
use Rattle.script_binding.specs.declared.names.Names.{Names}

-- the tables of a file as a script sees them: its own stage, and the stages that earlier scripts spawn
pub record Naming : Type 0 where
  pub registers : List (List ℕ)
  pub register_services : List ServiceId
  pub keys : List (List ℕ)
  pub homes : List ℕ
  pub shard_services : List ServiceId
  pub stages : List (List ℕ)
  pub pipes : List (List ℕ)
  pub pipe_ends : List PipeEnds
  pub stage : ℕ
  pub spawned : List ℕ

-- what borrowed tables say
abbrev pub naming : Names → Naming
naming n = record {
  registers = n.registers.now;
  register_services = n.register_services.now;
  keys = n.keys.now;
  homes = n.homes.now;
  shard_services = n.shard_services.now;
  stages = n.stages.now;
  pipes = n.pipes.now;
  pipe_ends = n.pipe_ends.now;
  stage = n.stage;
  spawned = n.spawned.now;
}

-- what the script of a stage of a configuration can name, where earlier scripts spawn these stages
abbrev pub naming_of : Config → ℕ → List ℕ → Naming
naming_of c stage spawned = record {
  registers = c.registers;
  register_services = c.register_services;
  keys = c.keys;
  homes = c.homes;
  shard_services = c.shard_services;
  stages = c.stages;
  pipes = c.pipes;
  pipe_ends = c.pipe_ends;
  stage = stage;
  spawned = spawned;
}

-- the register at a position
abbrev pub register_at : Naming → ℕ → Key
register_at n at = record { service = get_or n.register_services at (Reg 0); index = at }

-- the key at a position, which belongs to the service of its shard
abbrev pub key_at : Naming → ℕ → Key
key_at n at = record { service = get_or n.shard_services (get_or n.homes at 0 - 1) (Txn 0); index = at }

-- the register of a name, if there is one
abbrev pub register_of : Naming → List ℕ → Option Key
register_of n name = option_map (register_at n) (position_of name n.registers)

-- the key of a name, if there is one
abbrev pub key_of : Naming → List ℕ → Option Key
key_of n name = option_map (key_at n) (position_of name n.keys)

-- the number, from 1, at a position below 16
abbrev pub numbered : ℕ → Option ℕ
numbered at = if nat_lt at 16 then Some (at + 1) else None

-- the number of the stage of a name, if there is one
abbrev pub stage_of : Naming → List ℕ → Option ℕ
stage_of n name = option_and_then numbered (position_of name n.stages)

-- the number of the pipe of a name, if there is one
abbrev pub pipe_of : Naming → List ℕ → Option ℕ
pipe_of n name = option_and_then numbered (position_of name n.pipes)

-- whether a stage is the giver of these ends
abbrev pub is_giver : ℕ → Option PipeEnds → Bool
is_giver stage None = false
is_giver stage (Some ends) = ends.giver == stage

-- whether a stage is the taker of these ends
abbrev pub is_taker : ℕ → Option PipeEnds → Bool
is_taker stage None = false
is_taker stage (Some ends) = ends.taker == stage

-- whether the script's stage puts into a pipe
abbrev pub gives_to : Naming → ℕ → Bool
gives_to n pipe = is_giver n.stage (slice_get n.pipe_ends (pipe - 1))

-- whether the script's stage takes from a pipe
abbrev pub takes_from : Naming → ℕ → Bool
takes_from n pipe = is_taker n.stage (slice_get n.pipe_ends (pipe - 1))
