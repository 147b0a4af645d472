-- How stages stand: which are settled, and what context lies with their exit.
use Rattle.std.specs.Prelude.{ℕ, zero, suc, ◌+◌, ◌-◌, ◌==◌, Bool, true, false, ◌&&◌, List, [], ◌∷◌, nat_lt, Option, Some, None, if◌then◌else◌}
use Rattle.std.specs.List.{list_any}
use Rattle.rss_names.specs.declared.service.Target.{Target}
use Rattle.causal_context.specs.Seen.{Seen}
use Rattle.pipeline_lang.specs.declared.config.Config.{Config}
use Rattle.pipeline_lang.specs.declared.config.Body.{Body}
use Rattle.rss_model.specs.declared.history.How.{How}
use Rattle.rss_model.specs.declared.history.How.TheVariants.{Exited, Killed, Unavailable}
use Rattle.rss_model.specs.Scripts.{spawns}
use Rattle.rss_tables.specs.declared.endings.StubEnd.{StubEnd}
use Rattle.rss_tables.specs.declared.endings.StubEnd.TheVariants.{Fenced, Unfenced}
use Rattle.rss_machine.specs.State.{State, Stage, stage_at, owner_at}
use Rattle.rss_machine.specs.declared.state.Life.{Life}
use Rattle.rss_machine.specs.declared.state.Life.TheVariants.{Unborn, Live, Over}
use Rattle.rss_machine.specs.declared.state.OwnerFate.{OwnerFate}
use Rattle.rss_machine.specs.declared.state.OwnerFate.TheVariants.{Running, Ended, Dropped, CutOff}
use Rattle.rss_machine.specs.declared.ending.StageState.{StageState}
use Rattle.rss_machine.specs.declared.ending.StageState.TheVariants as standing

-- whether a stage lives
abbrev pub is_live : Life → Bool
is_live Unborn = false
is_live Live = true
is_live (Over how) = false

-- whether a stage is over
abbrev pub is_over : Life → Bool
is_over Unborn = false
is_over Live = false
is_over (Over how) = true

-- whether an owner is still running
abbrev pub is_running : OwnerFate → Bool
is_running Running = true
is_running Ended = false
is_running Dropped = false
is_running (CutOff target) = false

-- how a stub of this fate has ended, if it has
abbrev pub stub_end : OwnerFate → Option StubEnd
stub_end Running = None
stub_end Ended = Some Fenced
stub_end Dropped = None
stub_end (CutOff target) = Some (Unfenced target)

-- how the stub of this number has ended, if there is one and it has
abbrev pub stub_end_of : State → Option ℕ → Option StubEnd
stub_end_of s None = None
stub_end_of s (Some o) = stub_end (owner_at s o).fate

-- how a stage of this life stands, with its stub's end
abbrev pub life_state : Life → Option StubEnd → StageState
life_state Unborn end = standing.Unborn
life_state Live end = standing.Live
life_state (Over Exited) end = standing.Exited
life_state (Over Killed) end = standing.Ended Killed end
life_state (Over Unavailable) end = standing.Ended Unavailable end

-- how a stage stands
abbrev pub state_of_stage : State → Stage → StageState
state_of_stage s stage = life_state stage.life (stub_end_of s stage.stub)

abbrev pub stage_state : State → ℕ → StageState
stage_state s n = state_of_stage s (stage_at s n)

-- a stage has exited, or its stub is done
abbrev pub is_done : StageState → Bool
is_done standing.Unborn = false
is_done standing.Live = false
is_done standing.Exited = true
is_done (standing.Ended how None) = false
is_done (standing.Ended how (Some end)) = true

-- a stage was killed or unavailable
abbrev pub is_hurt : StageState → Bool
is_hurt standing.Unborn = false
is_hurt standing.Live = false
is_hurt standing.Exited = false
is_hurt (standing.Ended how end) = true

-- whether a stage is unborn
abbrev pub is_unborn : StageState → Bool
is_unborn standing.Unborn = true
is_unborn standing.Live = false
is_unborn standing.Exited = false
is_unborn (standing.Ended how end) = false

-- the first stage whose script spawns this one, counted from a number on; 0 where none does
abbrev pub parent_from : ℕ → ℕ → List Body → ℕ
parent_from n child [] = 0
parent_from n child (body ∷ bodies) =
    if list_any (spawns child) body.script then n else parent_from (n + 1) child bodies

-- the stage that spawns this one; 0 for a stage that none spawns
abbrev pub parent_of : Config → ℕ → ℕ
parent_of c child = parent_from 1 child c.bodies

-- whether a stage is settled: it is done, or it is unborn and its parent is settled; parents stand
-- earlier in the file, so that no more of them need be asked than there are stages
abbrev pub is_settled_within : ℕ → Config → State → ℕ → Bool
is_settled_within zero c s n = false
is_settled_within (suc left) c s n =
    if is_unborn (stage_state s n) then
    nat_lt 0 (parent_of c n) && is_settled_within left c s (parent_of c n)
    else
    is_done (stage_state s n)

abbrev pub is_settled : Config → State → ℕ → Bool
is_settled c s n = is_settled_within 16 c s n

-- the context that lies with the exit of a stage: its own, or that of its stub
abbrev pub exit_context_of : State → Stage → Option ℕ → Seen
exit_context_of s stage None = stage.context
exit_context_of s stage (Some stub) = (owner_at s stub).works.copy

abbrev pub exit_context : State → ℕ → Seen
exit_context s n = exit_context_of s (stage_at s n) (stage_at s n).stub
