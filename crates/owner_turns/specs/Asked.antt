-- What others ask of an owner: when it goes on by itself, what it waits for, where it is placed.
use Rattle.std.specs.Prelude.{◌≡◌, ℕ, ◌==◌, Bool, true, false, List, [], ◌∷◌, length, get_or, Option, Some, None, if◌then◌else◌}
use Rattle.std.specs.List.{list_any}
use Rattle.rss_names.specs.declared.attempt.Attempt.{Attempt}
use Rattle.rss_wire.specs.declared.messages.Holder.{Holder}
use Rattle.rss_tables.specs.Lines.{Line, asleep_on, no_line}
use Rattle.rss_tables.specs.SnapshotSession.{snap_end}
use Rattle.rss_tables.specs.TransactionSession.{waiting_time, attempt_of}
use Rattle.rss_machine.specs.Enabling.{can_wake, whether, owner_enabling, stub_waits}
use Rattle.rss_machine.specs.Places.{first_time, failed_time, is_read_work}
use Rattle.rss_machine.specs.Session.{Session}
use Rattle.rss_machine.specs.Standing.{is_running}
use Rattle.rss_machine.specs.State.{State, Owner}
use Rattle.rss_machine.specs.declared.session.Session.TheVariants as session
use Rattle.rss_machine.specs.declared.turn.Enabling.{Enabling}
use Rattle.rss_machine.specs.declared.turn.Enabling.TheVariants.{Never, Always, After}
use Rattle.turn_laws.specs.Turns.{lines_in}
use Rattle.owner_turns.specs.Going.{waits_in}
use Rattle.owner_turns.specs.declared.reading.OwnerEnabling.{OwnerEnabling}
use Rattle.owner_turns.specs.declared.reading.OwnerEnabling.TheVariants as enabled

-- when a call or fence statement goes on by itself: a time, or lines that can wake
abbrev pub after_or : Option ℕ → OwnerEnabling → OwnerEnabling
after_or (Some time) other = enabled.After time
after_or None other = other

abbrev pub session_enabling_in : Session → OwnerEnabling
session_enabling_in (session.Transaction t) = after_or (waiting_time t t.phase) enabled.Lines
session_enabling_in (session.Snapshot t) = enabled.Lines
session_enabling_in session.Idle = enabled.Never
session_enabling_in (session.Fixing r) = enabled.Never
session_enabling_in (session.Register r) = enabled.Never
session_enabling_in (session.Settling attempt shards) = enabled.Never

abbrev pub enabling_in : Owner → OwnerEnabling
enabling_in w = after_or w.works.wait (session_enabling_in w.session)

-- when a stub goes on by itself
abbrev pub unless_started : Bool → Option ℕ → OwnerEnabling
unless_started false wait = enabled.Always
unless_started true wait = after_or wait enabled.Never

abbrev pub stub_enabling_in : Owner → OwnerEnabling
stub_enabling_in w = if is_running w.fate then unless_started w.started w.works.wait else enabled.Never

-- the tables' enabling, with the lines of what is under way
abbrev pub enabling_as : State → List Line → OwnerEnabling → Enabling
enabling_as s lines enabled.Never = Never
enabling_as s lines (enabled.After time) = After time
enabling_as s lines enabled.Lines = whether (list_any (can_wake s) lines)
enabling_as s lines enabled.Always = Always

-- the first attempt that an asleep line waits for
abbrev pub awaited_holder : Option Holder → Option Attempt → Option Attempt
awaited_holder None other = other
awaited_holder (Some holder) other = Some holder.attempt

abbrev pub awaited_in : List Line → Option Attempt
awaited_in [] = None
awaited_in (l ∷ lines) = awaited_holder (asleep_on l.state) (awaited_in lines)

-- the time of a call of a transaction service, where its coordinator keeps this commit time for it
abbrev pub time_at : Option ℕ → Session → Option ℕ
time_at decided (session.Transaction t) = first_time decided (failed_time t.phase)
time_at decided (session.Snapshot t) = snap_end t.phase
time_at decided session.Idle = None
time_at decided (session.Fixing r) = None
time_at decided (session.Register r) = None
time_at decided (session.Settling attempt shards) = None

-- the present attempt of a transaction, with the shard of its first line
abbrev pub holder_of : List Line → Attempt → Option Holder
holder_of lines a = if length lines == 0 then None else Some record { attempt = a; coordinator = (get_or lines 0 no_line).shard }

abbrev pub attempt_under : Session → Option Holder
attempt_under (session.Transaction t) = holder_of t.lines (attempt_of t)
attempt_under (session.Snapshot t) = None
attempt_under session.Idle = None
attempt_under (session.Fixing r) = None
attempt_under (session.Register r) = None
attempt_under (session.Settling attempt shards) = None

-- whether the rounds of a call under way read a register
abbrev pub is_read_under : Session → Bool
is_read_under (session.Register r) = is_read_work r.work
is_read_under (session.Transaction t) = false
is_read_under (session.Snapshot t) = false
is_read_under session.Idle = false
is_read_under (session.Fixing r) = false
is_read_under (session.Settling attempt shards) = false

-- what the answers say in the tables' words
abbrev pub EnablingIsTold : Type 0
EnablingIsTold = (s : State) (w : Owner) → owner_enabling s w.works.wait w.session ≡ enabling_as s (lines_in w.session) (enabling_in w)

abbrev pub StubEnablingIsTold : Type 0
StubEnablingIsTold = (s : State) (w : Owner) → (if is_running w.fate then stub_waits w.started w.works.wait else Never) ≡ enabling_as s [] (stub_enabling_in w)
