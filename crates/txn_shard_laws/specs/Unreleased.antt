-- Who has given its locks back: attempts of transactions, and the present one only where its guard failed.
use Rattle.std.specs.Prelude.{◌≡◌, ◌⊎◌, ℕ, true, Some}
use Rattle.rss_names.specs.declared.attempt.Attempt.{Attempt}
use Rattle.rss_tables.specs.Attempts.{has_attempt}
use Rattle.rss_tables.specs.TransactionSession.{TxnSession}
use Rattle.rss_tables.specs.declared.phases.TxnPhase.{TxnPhase}
use Rattle.rss_tables.specs.declared.phases.TxnPhase.TheVariants as phase
use Rattle.rss_machine.specs.State.{State, shard_at}
use Rattle.txn_state_laws.specs.Closed.{AllClosed}
use Rattle.txn_state_laws.specs.Framed.{OfAttempt}
use Rattle.txn_state_laws.specs.Told.{freeing_time}

-- an attempt in this phase may have given locks back
abbrev pub MayHaveReleased : TxnPhase → Type 0
MayHaveReleased x = ((time : ℕ) × (freeing_time x ≡ Some time)) ⊎ (x ≡ phase.Undoing)

-- an attempt is one of a transaction
pub record IsAttempt (s : State) (a : Attempt) : Type 0 where
  pub txn : TxnSession
  pub of : OfAttempt s a txn

-- who is in a shard's list of those that gave locks back is an attempt of a transaction; the present one is there
-- only once its guard has failed
pub record AllUnreleased (s : State) : Type 0 where
  pub known : (shard : ℕ) (a : Attempt) → has_attempt (shard_at s shard).released a ≡ true → IsAttempt s a
  pub phases : (shard : ℕ) (a : Attempt) (x : TxnSession) → has_attempt (shard_at s shard).released a ≡ true → OfAttempt s a x → a.k ≡ x.k → MayHaveReleased x.phase

-- what shards have closed, with who has given locks back
pub record AllClosing (s : State) : Type 0 where
  pub closed : AllClosed s
  pub unreleased : AllUnreleased s
