-- When acts and the steps of stubs are enabled.
use Rattle.std.specs.Prelude.{ℕ, ◌-◌, Bool, true, false, ◌||◌, not, List, [], ◌∷◌, get_or, is_some, nat_lt, Option, Some, None, if◌then◌else◌}
use Rattle.std.specs.List.{list_any}
use Rattle.rss_names.specs.declared.service.Key.{Key}
use Rattle.pipeline_lang.specs.declared.config.Config.{Config}
use Rattle.pipeline_lang.specs.declared.script.Statement.{Statement}
use Rattle.pipeline_lang.specs.declared.script.Statement.TheVariants as statement
use Rattle.pipeline_lang.specs.Config.{ends_of, statement_at}
use Rattle.rss_model.specs.declared.history.How.{How}
use Rattle.rss_model.specs.declared.history.How.TheVariants.{Exited, Killed, Unavailable}
use Rattle.rss_wire.specs.declared.messages.Holder.{Holder}
use Rattle.rss_tables.specs.Lines.{Line, asleep_on}
use Rattle.rss_tables.specs.Pipes.{has_room, can_take}
use Rattle.rss_tables.specs.ShardRow.{decision_in}
use Rattle.rss_tables.specs.TransactionSession.{waiting_time}
use Rattle.rss_machine.specs.Session.{Session}
use Rattle.rss_machine.specs.declared.session.Session.TheVariants as session
use Rattle.rss_machine.specs.Standing.{is_live, is_running, stage_state, is_done, is_settled}
use Rattle.rss_machine.specs.State.{State, Owner, stage_at, owner_at, pipe_at, shard_at}
use Rattle.rss_machine.specs.declared.state.Life.{Life}
use Rattle.rss_machine.specs.declared.state.Life.TheVariants.{Unborn, Live, Over}
use Rattle.rss_machine.specs.declared.turn.Enabling.{Enabling}
use Rattle.rss_machine.specs.declared.turn.Enabling.TheVariants.{Never, Always, After}

-- the statement that a stage makes next; an exit stands behind the last one
abbrev pub next_statement : Config → State → ℕ → Statement ℕ Key ℕ ℕ
next_statement c s n = statement_at c n (stage_at s n).cursor.position

-- whether a stage can make a statement
abbrev pub can_make : Config → State → Statement ℕ Key ℕ ℕ → Bool
can_make c s (statement.Wait child) = is_done (stage_state s child)
can_make c s (statement.Put pipe value) =
    has_room (pipe_at s pipe) (ends_of c pipe).capacity || is_settled c s (ends_of c pipe).taker
can_make c s (statement.Take variable pipe) = can_take (pipe_at s pipe).chunks (pipe_at s pipe).mark
can_make c s (statement.Let variable value) = true
can_make c s (statement.Read variable key) = true
can_make c s (statement.Write key value) = true
can_make c s (statement.Snap pairs) = true
can_make c s (statement.Txn reads guard writes) = true
can_make c s (statement.Spawn child) = true
can_make c s (statement.Close pipe) = true
can_make c s statement.Fence = true
can_make c s (statement.Repeat times) = true
can_make c s (statement.When test) = true
can_make c s statement.End = true
can_make c s statement.Exit = true

-- enabled or not, whatever the reading
abbrev pub whether : Bool → Enabling
whether true = Always
whether false = Never

-- whether the holder that an asleep line waits for is decided at its coordinator
abbrev pub is_decided_at : State → Option Holder → Bool
is_decided_at s None = false
is_decided_at s (Some holder) = is_some (decision_in (shard_at s holder.coordinator).decisions holder.attempt)

-- whether an asleep line can wake
abbrev pub can_wake : State → Line → Bool
can_wake s l = is_decided_at s (asleep_on l.state)

-- a transaction that is committed waits for its time, and else for a line that can wake
abbrev pub txn_enabling : State → Option ℕ → List Line → Enabling
txn_enabling s (Some time) lines = After time
txn_enabling s None lines = whether (list_any (can_wake s) lines)

-- when an owner can go on by itself: what it has under way decides, where its works wait for nothing
abbrev pub session_enabling : State → Session → Enabling
session_enabling s (session.Transaction t) = txn_enabling s (waiting_time t t.phase) t.lines
session_enabling s (session.Snapshot t) = whether (list_any (can_wake s) t.lines)
session_enabling s session.Idle = Never
session_enabling s (session.Fixing r) = Never
session_enabling s (session.Register r) = Never
session_enabling s (session.Settling attempt shards) = Never

-- when an owner can go on by itself: works that wait for a time go first
abbrev pub owner_enabling : State → Option ℕ → Session → Enabling
owner_enabling s (Some time) session = After time
owner_enabling s None session = session_enabling s session

-- when a live stage can act: its call or fence goes on, or its next statement can be made
abbrev pub live_enabling : Config → State → ℕ → Option ℕ → Enabling
live_enabling c s n None = whether (can_make c s (next_statement c s n))
live_enabling c s n (Some o) = owner_enabling s (owner_at s o).works.wait (owner_at s o).session

-- when a stage can act
abbrev pub act_enabling : Config → State → ℕ → Enabling
act_enabling c s n =
    if is_live (stage_at s n).life then live_enabling c s n (stage_at s n).owner else Never

-- when a stub that is not done can go on: it has not started, or its works wait for a time
abbrev pub stub_waits : Bool → Option ℕ → Enabling
stub_waits false wait = Always
stub_waits true None = Never
stub_waits true (Some time) = After time

-- when the stub of a stage can go on
abbrev pub stub_enabling_of : State → Option ℕ → Enabling
stub_enabling_of s None = Never
stub_enabling_of s (Some o) =
    if is_running (owner_at s o).fate then stub_waits (owner_at s o).started (owner_at s o).works.wait else Never

abbrev pub stub_enabling : State → ℕ → Enabling
stub_enabling s n = stub_enabling_of s (stage_at s n).stub

-- enabled in a step whose reading begins at this time
abbrev pub is_enabled_at : Enabling → ℕ → Bool
is_enabled_at Never earliest = false
is_enabled_at Always earliest = true
is_enabled_at (After time) earliest = nat_lt time earliest

-- enabled under some reading
abbrev pub is_possible : Enabling → Bool
is_possible Never = false
is_possible Always = true
is_possible (After time) = true
