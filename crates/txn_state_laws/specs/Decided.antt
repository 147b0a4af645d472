-- Decisions: where they are kept, of which attempts, and who knows of them.
use Rattle.std.specs.Prelude.{◌≡◌, ⊤, ℕ, ◌<◌, ◌≤◌, Bool, Option, Some, None}
use Rattle.rss_names.specs.declared.attempt.Attempt.{Attempt}
use Rattle.rss_names.specs.declared.service.Target.TheVariants.{Shard}
use Rattle.rss_wire.specs.declared.messages.Outcome.{Outcome}
use Rattle.rss_wire.specs.declared.messages.Outcome.TheVariants.{Committed, Aborted}
use Rattle.rss_wire.specs.declared.messages.Reply.TheVariants as reply
use Rattle.rss_wire.specs.declared.messages.Request.TheVariants as request
use Rattle.rss_tables.specs.Lines.{coordinator_of}
use Rattle.rss_tables.specs.ShardRow.{decision_in}
use Rattle.rss_tables.specs.TransactionSession.{TxnSession, attempt_of, greatest_prepared}
use Rattle.rss_tables.specs.declared.phases.TxnPhase.{TxnPhase}
use Rattle.rss_tables.specs.declared.phases.TxnPhase.TheVariants as phase
use Rattle.rss_machine.specs.State.{State, owner_at, shard_at}
use Rattle.rss_machine.specs.declared.session.Session.TheVariants as session
use Rattle.txn_state_laws.specs.Framed.{OfAttempt}
use Rattle.txn_state_laws.specs.Replied.{Replied}

-- a commit time fits a phase: the attempt asked for it, or knows of it
abbrev pub CommitsAt : TxnPhase → ℕ → Type 0
CommitsAt phase.Locking time = ⊥
CommitsAt phase.Preparing time = ⊥
CommitsAt (phase.Freeing other) time = ⊥
CommitsAt (phase.FreeingLast other) time = ⊥
CommitsAt (phase.Deciding other) time = ⊤
CommitsAt phase.Undoing time = ⊥
CommitsAt (phase.Waiting other) time = other ≡ time
CommitsAt (phase.Committed other) time = other ≡ time
CommitsAt (phase.Failed other) time = ⊥

-- the commit time that an attempt knows of
abbrev pub known_commit : TxnPhase → Option ℕ
known_commit (phase.Waiting time) = Some time
known_commit (phase.Committed time) = Some time
known_commit phase.Locking = None
known_commit phase.Preparing = None
known_commit (phase.Freeing time) = None
known_commit (phase.FreeingLast time) = None
known_commit (phase.Deciding time) = None
known_commit phase.Undoing = None
known_commit (phase.Failed time) = None

-- a decision is one of an attempt, kept at its coordinator; what is committed is the present attempt, at its greatest
-- prepare time or later
pub record DecidedIs (s : State) (shard : ℕ) (a : Attempt) (outcome : Outcome) : Type 0 where
  pub txn : TxnSession
  pub of : OfAttempt s a txn
  pub at : shard ≡ coordinator_of txn.lines
  pub committed : (time : ℕ) → outcome ≡ Committed time → (a.k ≡ txn.k) × CommitsAt txn.phase time × (greatest_prepared txn.lines ≤ time)

pub record AllDecided (s : State) : Type 0 where
  pub at : (shard : ℕ) (a : Attempt) (outcome : Outcome) → 1 ≤ shard → decision_in (shard_at s shard).decisions a ≡ Some outcome → DecidedIs s shard a outcome
  pub before : (o k : ℕ) (x : TxnSession) → (owner_at s o).session ≡ session.Transaction x → 1 ≤ k → k < x.k
      → decision_in (shard_at s (coordinator_of x.lines)).decisions record { call = o; k = k } ≡ Some Aborted
  pub known : (o time : ℕ) (x : TxnSession) → (owner_at s o).session ≡ session.Transaction x → known_commit x.phase ≡ Some time
      → decision_in (shard_at s (coordinator_of x.lines)).decisions (attempt_of x) ≡ Some (Committed time)
  pub decided : (shard : ℕ) (a : Attempt) (commit : Bool) (time : ℕ) (outcome : Outcome) → Replied s (Shard shard) (request.Decide a commit time) (reply.Decided outcome)
      → decision_in (shard_at s shard).decisions a ≡ Some outcome
  pub inquired : (shard : ℕ) (a : Attempt) (outcome : Outcome) → Replied s (Shard shard) (request.Inquire a) (reply.Outcome outcome)
      → decision_in (shard_at s shard).decisions a ≡ Some outcome
