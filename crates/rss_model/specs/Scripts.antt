-- Who puts into a pipe, and which stages are spawned.
use Rattle.std.specs.Prelude.{ℕ, ◌==◌, Bool, false}
use Rattle.std.specs.List.{list_any}
use Rattle.pipeline_lang.specs.declared.config.Config.{Config}
use Rattle.pipeline_lang.specs.declared.config.Body.{Body}
use Rattle.pipeline_lang.specs.declared.script.Statement.TheVariants as statement
use Rattle.pipeline_lang.specs.Config.{ends_of}
use Rattle.rss_model.specs.Cursor.{NumberedStatement}

-- the stage that puts into a pipe; pipes are numbered from 1
abbrev pub giver_of : Config → ℕ → ℕ
giver_of config pipe = (ends_of config pipe).giver

-- whether a statement spawns this stage
abbrev pub spawns : ℕ → NumberedStatement → Bool
spawns stage (statement.Spawn child) = child == stage
spawns stage (statement.Let variable value) = false
spawns stage (statement.Read variable key) = false
spawns stage (statement.Write key value) = false
spawns stage (statement.Snap pairs) = false
spawns stage (statement.Txn pairs guard writes) = false
spawns stage (statement.Wait child) = false
spawns stage (statement.Put pipe value) = false
spawns stage (statement.Take variable pipe) = false
spawns stage (statement.Close pipe) = false
spawns stage statement.Fence = false
spawns stage (statement.Repeat turns) = false
spawns stage (statement.When test) = false
spawns stage statement.End = false
spawns stage statement.Exit = false

-- whether some script spawns the stage; every other stage is live from the beginning
abbrev pub is_spawned : Config → ℕ → Bool
is_spawned config stage =
    list_any (λ (body : Body). list_any (spawns stage) body.script) config.bodies
