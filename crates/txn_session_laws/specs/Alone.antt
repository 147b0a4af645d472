-- The phases in which a transaction asks its coordinator alone.
use Rattle.std.specs.Prelude.{◌≡◌, ℕ, ◌<◌, Bool, true, false, length}
use Rattle.rss_tables.specs.TransactionSession.{TxnSession, leads}
use Rattle.rss_tables.specs.declared.lines.LineState.TheVariants.{Dropped}
use Rattle.rss_tables.specs.declared.phases.TxnPhase.{TxnPhase}
use Rattle.rss_tables.specs.declared.phases.TxnPhase.TheVariants as phase
use Rattle.rss_machine.specs.State.{State, owner_at}
use Rattle.rss_machine.specs.declared.session.Session.TheVariants as session
use Rattle.session_laws.specs.Frames.{nth_line}

-- the last release, and the decision
abbrev pub is_alone : TxnPhase → Bool
is_alone phase.Locking = false
is_alone phase.Preparing = false
is_alone (phase.Freeing time) = false
is_alone (phase.FreeingLast time) = true
is_alone (phase.Deciding time) = true
is_alone phase.Undoing = true
is_alone (phase.Waiting time) = false
is_alone (phase.Committed time) = false
is_alone (phase.Failed time) = false

-- there the lines of the others are dropped
pub record IsAlone (x : TxnSession) : Type 0 where
  pub others : is_alone x.phase ≡ true → (place : ℕ) → place < length x.lines → leads x (nth_line x.lines place) ≡ false → (nth_line x.lines place).state ≡ Dropped

pub record AllAlone (s : State) : Type 0 where
  pub txn : (o : ℕ) (x : TxnSession) → (owner_at s o).session ≡ session.Transaction x → IsAlone x
