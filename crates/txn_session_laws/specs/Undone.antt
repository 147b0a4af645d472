-- What an attempt that is undone never hears.
use Rattle.std.specs.Prelude.{◌≡◌, ℕ}
use Rattle.rss_wire.specs.declared.messages.Outcome.TheVariants.{Committed}
use Rattle.rss_wire.specs.declared.messages.Reply.TheVariants as reply
use Rattle.rss_tables.specs.TransactionSession.{TxnSession}
use Rattle.rss_tables.specs.declared.phases.TxnPhase.TheVariants as phase
use Rattle.rss_machine.specs.State.{State, owner_at}
use Rattle.rss_machine.specs.declared.session.Session.TheVariants as session
use Rattle.shard_event_laws.specs.Events.{Hears}

-- an attempt that has its coordinator decide against it never hears of a commit
pub record NeverUndone (s : State) : Type 0 where
  pub never : (o slot : ℕ) (x : TxnSession) (time : ℕ) → (owner_at s o).session ≡ session.Transaction x → x.phase ≡ phase.Undoing → Hears s o slot (reply.Decided (Committed time)) → ⊥
