-- How many steps are enough for a file: in the serial policy, a log that allows so many is never full.
use Rattle.std.specs.Prelude.{ℕ, ◌+◌, ◌*◌, List, [], ◌∷◌, length}
use Rattle.pipeline_lang.specs.Counts.{executed}
use Rattle.pipeline_lang.specs.declared.config.Body.{Body}
use Rattle.pipeline_lang.specs.declared.config.Config.{Config}
use Rattle.pipeline_lang.specs.declared.config.ServiceDef.{ServiceDef}
use Rattle.pipeline_lang.specs.declared.config.Withhold.{Withhold}

-- the statements that all stages execute, with an exit of each
abbrev pub executed_by : List Body → ℕ
executed_by [] = 0
executed_by (body ∷ bodies) = executed body.script + 1 + executed_by bodies

-- the replicas of all services
abbrev pub all_replicas : List ServiceDef → ℕ
all_replicas [] = 0
all_replicas (d ∷ services) = d.replicas + all_replicas services

-- the requests that the file withholds
abbrev pub all_withheld : List Withhold → ℕ
all_withheld [] = 0
all_withheld (w ∷ withholds) = w.count + all_withheld withholds

-- for each statement and for each stage, what its messages with replicas and shards can take, and
-- sixteen steps for each request that is withheld
abbrev pub budget : Config → ℕ
budget c =
    executed_by c.bodies * (8 * all_replicas c.services + 8 * length c.shards + 32)
    + length c.bodies * (4 * all_replicas c.services + 16 * length c.shards + 32)
    + 16 * all_withheld c.withholds
