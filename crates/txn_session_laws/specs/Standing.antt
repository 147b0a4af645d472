-- What holds in every state besides: no owner stands at number 0, and where the coordinator of a transaction alone is
-- asked, its line awaits and the others are dropped.
use Rattle.std.specs.Prelude.{◌≡◌, ℕ, ◌<◌, Bool, true, false, length, if◌then◌else◌}
use Rattle.pipeline_lang.specs.declared.config.Config.{Config}
use Rattle.rss_tables.specs.TransactionSession.{TxnSession, leads}
use Rattle.rss_tables.specs.declared.lines.LineState.TheVariants.{Awaiting, Dropped}
use Rattle.rss_tables.specs.declared.phases.TxnPhase.{TxnPhase}
use Rattle.rss_tables.specs.declared.phases.TxnPhase.TheVariants as phase
use Rattle.rss_machine.specs.State.{State, owner_at}
use Rattle.rss_machine.specs.declared.session.OwnerKind.TheVariants as kind
use Rattle.rss_machine.specs.declared.session.Session.TheVariants as session
use Rattle.session_laws.specs.Frames.{nth_line}
use Rattle.txn_state_laws.specs.Awaited.{AllAwaited}
use Rattle.txn_state_laws.specs.Framed.{AllFramed}

-- the owner of number 0 is none
pub record NoneFirst (s : State) : Type 0 where
  pub some : 0 < length s.owners
  pub none : (owner_at s 0).kind ≡ kind.Fencing

-- the phases in which the coordinator alone is asked, and that in which the commit is waited for behind them
abbrev pub is_led : TxnPhase → Bool
is_led phase.Locking = false
is_led phase.Preparing = false
is_led (phase.Freeing time) = false
is_led (phase.FreeingLast time) = true
is_led (phase.Deciding time) = true
is_led phase.Undoing = true
is_led (phase.Waiting time) = true
is_led (phase.Committed time) = false
is_led (phase.Failed time) = false

-- the coordinator's line awaits, and the others are dropped
pub record TxnLed (x : TxnSession) : Type 0 where
  pub each : is_led x.phase ≡ true → (place : ℕ) → place < length x.lines → (nth_line x.lines place).state ≡ (if leads x (nth_line x.lines place) then Awaiting else Dropped)

pub record AllLed (s : State) : Type 0 where
  pub txn : (o : ℕ) (x : TxnSession) → (owner_at s o).session ≡ session.Transaction x → TxnLed x

-- all that is known of what is under way with shards, in one state
pub record UnderWay (c : Config) (s : State) : Type 0 where
  pub first : NoneFirst s
  pub framed : AllFramed c s
  pub led : AllLed s
  pub awaited : AllAwaited s
