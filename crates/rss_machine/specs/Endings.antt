-- How a run stands, and what a stage waits for.
use Rattle.std.specs.Prelude.{ℕ, zero, suc, ◌+◌, Bool, true, false, ◌&&◌, ◌||◌, ◌==◌, not, List, [], ◌∷◌, length, Option, Some, None, nat_le, if◌then◌else◌}
use Rattle.std.specs.List.{list_any}
use Rattle.pipeline_lang.specs.declared.config.Config.{Config}
use Rattle.pipeline_lang.specs.declared.script.Statement.{Statement}
use Rattle.pipeline_lang.specs.declared.script.Statement.TheVariants as statement
use Rattle.rss_names.specs.declared.service.Key.{Key}
use Rattle.rss_wire.specs.declared.messages.Holder.{Holder}
use Rattle.rss_wire.specs.Messages.{pending_count}
use Rattle.rss_tables.specs.declared.endings.Await.{Await}
use Rattle.rss_tables.specs.declared.endings.Await.TheVariants as await
use Rattle.rss_tables.specs.Lines.{Line, asleep_on}
use Rattle.rss_machine.specs.Enabling.{next_statement, act_enabling, stub_enabling, is_possible}
use Rattle.rss_machine.specs.Session.{Session}
use Rattle.rss_machine.specs.declared.session.Session.TheVariants as session
use Rattle.rss_machine.specs.Standing.{state_of_stage, is_settled, is_hurt}
use Rattle.rss_machine.specs.State.{State, Stage, stage_at, owner_at}
use Rattle.rss_machine.specs.declared.ending.Ending.{Ending}
use Rattle.rss_machine.specs.declared.ending.Ending.TheVariants as ending

-- whether all of these many stages from a number on are settled
abbrev pub all_settled : Config → State → ℕ → ℕ → Bool
all_settled c s n zero = true
all_settled c s n (suc left) = is_settled c s n && all_settled c s (n + 1) left

-- whether an act or a stub's step of one of these many stages from a number on is enabled under some reading
abbrev pub any_possible : Config → State → ℕ → ℕ → Bool
any_possible c s n zero = false
any_possible c s n (suc left) =
    is_possible (act_enabling c s n) || is_possible (stub_enabling s n) || any_possible c s (n + 1) left

-- no act, no message and no stub's step is to come
abbrev pub is_stuck : Config → State → Bool
is_stuck c s = (pending_count s.net == 0) && not (any_possible c s 1 (length s.stages))

-- how a run stands that has led to this state
unfoldable pub ending_of : Config → State → Ending
ending_of c s =
    if all_settled c s 1 (length s.stages) then
    (if list_any (λ (stage : Stage). is_hurt (state_of_stage s stage)) s.stages then ending.Hurt else ending.Done)
    else
    (if nat_le c.max_steps s.steps then
    ending.Limit
    else
    (if is_stuck c s then ending.Stuck else ending.Unfinished))

-- the call whose decision the least asleep line waits for
abbrev pub awaits_holder : Option Holder → Option Await → Option Await
awaits_holder None other = other
awaits_holder (Some holder) other = Some (await.Call holder.attempt.call)

abbrev pub awaits_line : List Line → Option Await
awaits_line [] = None
awaits_line (l ∷ lines) = awaits_holder (asleep_on l.state) (awaits_line lines)

-- what an owner waits for by what it has under way
abbrev pub awaits_in : Session → Option Await
awaits_in (session.Transaction t) = awaits_line t.lines
awaits_in (session.Snapshot t) = awaits_line t.lines
awaits_in session.Idle = None
awaits_in (session.Fixing r) = None
awaits_in (session.Register r) = None
awaits_in (session.Settling attempt shards) = None

-- what a stage waits for that cannot make a statement
abbrev pub awaits_statement : Statement ℕ Key ℕ ℕ → Option Await
awaits_statement (statement.Take variable p) = Some (await.Take p)
awaits_statement (statement.Put p value) = Some (await.Put p)
awaits_statement (statement.Wait child) = Some (await.Stage child)
awaits_statement (statement.Let variable value) = None
awaits_statement (statement.Read variable key) = None
awaits_statement (statement.Write key value) = None
awaits_statement (statement.Snap pairs) = None
awaits_statement (statement.Txn reads guard writes) = None
awaits_statement (statement.Spawn child) = None
awaits_statement (statement.Close p) = None
awaits_statement statement.Fence = None
awaits_statement (statement.Repeat times) = None
awaits_statement (statement.When test) = None
awaits_statement statement.End = None
awaits_statement statement.Exit = None

-- what a live stage waits for whose act no reading enables
abbrev pub awaits_of : Config → State → ℕ → Option ℕ → Option Await
awaits_of c s n None = awaits_statement (next_statement c s n)
awaits_of c s n (Some o) = awaits_in (owner_at s o).session
