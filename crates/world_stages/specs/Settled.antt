-- Which stages are settled, where the ends of their stubs stand in a list.
use Rattle.std.specs.Prelude.{◌≡◌, ℕ, zero, suc, ◌+◌, ◌-◌, Bool, true, false, ◌&&◌, ◌||◌, List, [], ◌∷◌, get_or, length, nat_lt, Option, Some, None, if◌then◌else◌}
use Rattle.rss_names.specs.declared.service.Key.{Key}
use Rattle.pipeline_lang.specs.Config.{ends_of}
use Rattle.pipeline_lang.specs.declared.config.Config.{Config}
use Rattle.pipeline_lang.specs.declared.script.Statement.{Statement}
use Rattle.pipeline_lang.specs.declared.script.Statement.TheVariants as statement
use Rattle.rss_tables.specs.Pipes.{has_room, can_take}
use Rattle.rss_tables.specs.declared.endings.StubEnd.{StubEnd}
use Rattle.rss_machine.specs.Standing.{life_state, is_unborn, is_done, parent_of, stub_end_of}
use Rattle.rss_machine.specs.State.{State, Stage, stage_at}
use Rattle.rss_machine.specs.declared.ending.StageState.{StageState}
use Rattle.world_parts.specs.Parts.{Staging, pipe_in}
use Rattle.world_stages.specs.View.{stage_of}

-- the stages that spawn the stages of these many numbers from one on, 0 for one that none spawns
abbrev pub parents_from : Config → ℕ → ℕ → List ℕ
parents_from c n zero = []
parents_from c n (suc left) = parent_of c n ∷ parents_from c (n + 1) left

-- the stage that spawns each, by the number of the stage
abbrev pub parents_of : Config → List ℕ
parents_of c = parents_from c 0 (length c.bodies + 1)

-- how a stage stands
abbrev pub standing_in : List Stage → List (Option StubEnd) → ℕ → StageState
standing_in stages ends n = life_state (stage_of stages n).life (get_or ends (n - 1) None)

-- whether a stage is settled
abbrev pub settled_in : List ℕ → List (Option StubEnd) → List Stage → ℕ → ℕ → Bool
settled_in parents ends stages zero n = false
settled_in parents ends stages (suc left) n =
    if is_unborn (standing_in stages ends n) then
    nat_lt 0 (get_or parents n 0) && settled_in parents ends stages left (get_or parents n 0)
    else
    is_done (standing_in stages ends n)

-- whether a stage can make a statement
abbrev pub can_make_in : Config → List ℕ → List (Option StubEnd) → Staging → Statement ℕ Key ℕ ℕ → Bool
can_make_in c parents ends g (statement.Wait child) = is_done (standing_in g.stages ends child)
can_make_in c parents ends g (statement.Put pipe value) =
    has_room (pipe_in g pipe) (ends_of c pipe).capacity || settled_in parents ends g.stages 16 (ends_of c pipe).taker
can_make_in c parents ends g (statement.Take variable pipe) = can_take (pipe_in g pipe).chunks (pipe_in g pipe).mark
can_make_in c parents ends g (statement.Let variable value) = true
can_make_in c parents ends g (statement.Read variable key) = true
can_make_in c parents ends g (statement.Write key value) = true
can_make_in c parents ends g (statement.Snap pairs) = true
can_make_in c parents ends g (statement.Txn pairs guard writes) = true
can_make_in c parents ends g (statement.Spawn child) = true
can_make_in c parents ends g (statement.Close pipe) = true
can_make_in c parents ends g statement.Fence = true
can_make_in c parents ends g (statement.Repeat times) = true
can_make_in c parents ends g (statement.When test) = true
can_make_in c parents ends g statement.End = true
can_make_in c parents ends g statement.Exit = true

-- whether all of these many stages from a number on are settled
abbrev pub all_settled_in : List ℕ → List (Option StubEnd) → List Stage → ℕ → ℕ → Bool
all_settled_in parents ends stages n zero = true
all_settled_in parents ends stages n (suc left) =
    settled_in parents ends stages 16 n && all_settled_in parents ends stages (n + 1) left

-- the list tells how the stub of each stage has ended
pub record AreEnds (s : State) (ends : List (Option StubEnd)) : Type 0 where
  pub told : (n : ℕ) → get_or ends (n - 1) None ≡ stub_end_of s (stage_at s n).stub
