-- Only while a transaction gets its locks may somebody be in the way of one of its lines.
use Rattle.std.specs.Prelude.{◌≡◌, ℕ, ◌<◌, Bool, true, false, length}
use Rattle.rss_tables.specs.TransactionSession.{TxnSession}
use Rattle.rss_tables.specs.declared.lines.LineState.{LineState}
use Rattle.rss_tables.specs.declared.lines.LineState.TheVariants.{Awaiting, Answered, Inquiring, Resolving, Asleep, Dropped}
use Rattle.rss_tables.specs.declared.phases.TxnPhase.{TxnPhase}
use Rattle.rss_tables.specs.declared.phases.TxnPhase.TheVariants as phase
use Rattle.rss_machine.specs.State.{State, owner_at}
use Rattle.rss_machine.specs.declared.session.Session.TheVariants as session
use Rattle.session_laws.specs.Frames.{nth_line}

-- whether a line has nobody in its way
abbrev pub is_calm : LineState → Bool
is_calm Awaiting = true
is_calm Answered = true
is_calm Dropped = true
is_calm (Inquiring holder) = false
is_calm (Resolving holder outcome) = false
is_calm (Asleep holder) = false

-- whether an attempt is getting its locks
abbrev pub is_locking : TxnPhase → Bool
is_locking phase.Locking = true
is_locking phase.Preparing = false
is_locking (phase.Freeing time) = false
is_locking (phase.FreeingLast time) = false
is_locking (phase.Deciding time) = false
is_locking phase.Undoing = false
is_locking (phase.Waiting time) = false
is_locking (phase.Committed time) = false
is_locking (phase.Failed time) = false

-- behind the phase of locks, no line has anybody in its way
abbrev pub IsCalm : TxnSession → Type 0
IsCalm x = is_locking x.phase ≡ false → (place : ℕ) → place < length x.lines → is_calm (nth_line x.lines place).state ≡ true

pub record AllCalm (s : State) : Type 0 where
  pub each : (o : ℕ) (x : TxnSession) → (owner_at s o).session ≡ session.Transaction x → IsCalm x
