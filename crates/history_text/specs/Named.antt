-- What the names of a file name.
use Rattle.std.specs.Prelude.{ℕ, ◌+◌, nat_lt, cond, List, Option, Some, None}
use Rattle.rss_names.specs.declared.service.Key.{Key}
use Rattle.rss_names.specs.Names.{is_name}
use Rattle.pipeline_lang.specs.declared.config.Config.{Config}
use Rattle.pipeline_lang.specs.Config.{service_of_register, service_of_shard, home_of}
use Rattle.pipeline_lang.specs.Positions.{position_of}
use Rattle.history_text.specs.Reading.{◌>>=◌}

-- the position of a name in a table
abbrev pub position_named : List (List ℕ) → List ℕ → Option ℕ
position_named table word = cond (is_name word) (position_of word table) None

-- the register at a position
abbrev pub register_at : Config → ℕ → Option Key
register_at config i = Some (record { service = service_of_register config i; index = i })

-- the key of a transaction service at a position
abbrev pub shard_key_at : Config → ℕ → Option Key
shard_key_at config i =
    Some (record { service = service_of_shard config (home_of config i); index = i })

-- a number from 1 to this one, by its position from 0
abbrev pub numbered : ℕ → ℕ → Option ℕ
numbered most i = cond (nat_lt i most) (Some (i + 1)) None

-- the register of a name
abbrev pub register_named : Config → List ℕ → Option Key
register_named config word = position_named config.registers word >>= register_at config

-- the key of a transaction service of a name
abbrev pub shard_key_named : Config → List ℕ → Option Key
shard_key_named config word = position_named config.keys word >>= shard_key_at config

-- the stage of a name
abbrev pub stage_named : Config → List ℕ → Option ℕ
stage_named config word = position_named config.stages word >>= numbered 16

-- the pipe of a name
abbrev pub pipe_named : Config → List ℕ → Option ℕ
pipe_named config word = position_named config.pipes word >>= numbered 255
