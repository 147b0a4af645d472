-- What a file may cost: less than its budget.
use Rattle.std.specs.Prelude.{ℕ, ◌+◌, ◌*◌, List, [], ◌∷◌, length}
use Rattle.pipeline_lang.specs.Counts.{executed}
use Rattle.pipeline_lang.specs.declared.config.Body.{Body}
use Rattle.pipeline_lang.specs.declared.config.Config.{Config}
use Rattle.rss_machine.specs.Budget.{all_replicas}

-- for each statement: its act, a call's works and its rounds with replicas or shards
abbrev pub statement_cost : Config → ℕ
statement_cost c = 6 * all_replicas c.services + 6 * length c.shards + 12

-- and for the end of a stage: an exit, or its death, its stub, and what it leaves on shards for others to settle
abbrev pub end_cost : Config → ℕ
end_cost c = 2 * all_replicas c.services + 8 * length c.shards + 12

-- what the stages of a file may cost, in steps
abbrev pub cost_of : Config → List Body → ℕ
cost_of c [] = 0
cost_of c (body ∷ bodies) = executed body.script * statement_cost c + end_cost c + cost_of c bodies
