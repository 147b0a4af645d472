-- What works are in every run of a file, and what an act finds.
use Rattle.std.specs.Prelude.{◌≡◌, ℕ, ◌<◌, true, List, Option, Some, None, is_some}
use Rattle.truetime.specs.Reading.{Reading}
use Rattle.pipeline_lang.specs.declared.config.Config.{Config}
use Rattle.rss_tables.specs.Lines.{Line, asleep_on}
use Rattle.rss_tables.specs.TransactionSession.{waiting_time}
use Rattle.rss_machine.specs.Effect.{waking_line}
use Rattle.rss_machine.specs.Refusal.{kind_refusal}
use Rattle.rss_machine.specs.Session.{Session}
use Rattle.rss_machine.specs.State.{State, stage_at, owner_at}
use Rattle.rss_machine.specs.declared.session.Session.TheVariants as session
use Rattle.rss_machine.specs.declared.step.StepKind.TheVariants.{Act}
use Rattle.world_laws.specs.Traffic.{WorksFit}
use Rattle.size_laws.specs.Laws.{InReadRuns}

-- works are few, and of the file's services and registers
abbrev pub WorksFitFiles : Type 0
WorksFitFiles = InReadRuns WorksFit

-- the line that wakes sleeps
abbrev pub WakingLinesSleep : Type 0
WakingLinesSleep = (s : State) (lines : List Line) (l : Line) → waking_line s lines ≡ Some l → is_some (asleep_on l.state) ≡ true

-- the time that an owner waits for: its works go first, and then a committed transaction
abbrev pub time_awaited : Option ℕ → Session → Option ℕ
time_awaited (Some time) x = Some time
time_awaited None (session.Transaction t) = waiting_time t t.phase
time_awaited None session.Idle = None
time_awaited None (session.Fixing r) = None
time_awaited None (session.Register r) = None
time_awaited None (session.Snapshot t) = None
time_awaited None (session.Settling attempt shards) = None

-- in an act that is allowed it has passed
abbrev pub ActsFindTimesPassed : Type 0
ActsFindTimesPassed =
    (c : Config) (s : State) (at : Reading) (n o time : ℕ) → kind_refusal c s at (Act n) ≡ None → (stage_at s n).owner ≡ Some o → time_awaited (owner_at s o).works.wait (owner_at s o).session ≡ Some time → time < at.earliest
