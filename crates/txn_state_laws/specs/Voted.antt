-- What becomes of an attempt that was told that it is prepared.
use Rattle.std.specs.Prelude.{◌≡◌, ℕ, ◌<◌, ◌≤◌, List}
use Rattle.rss_names.specs.declared.attempt.Attempt.{Attempt}
use Rattle.rss_names.specs.declared.service.Key.{Key}
use Rattle.rss_names.specs.declared.service.Target.TheVariants.{Shard}
use Rattle.rss_wire.specs.declared.messages.Outcome.TheVariants.{Committed, Aborted}
use Rattle.rss_wire.specs.declared.messages.Reply.TheVariants as reply
use Rattle.rss_wire.specs.declared.messages.Request.TheVariants as request
use Rattle.rss_tables.specs.Lines.{Line}
use Rattle.rss_tables.specs.TransactionSession.{TxnSession, computed, writes_on}
use Rattle.rss_machine.specs.State.{State, shard_at}
use Rattle.shard_laws.specs.Fitting.{IsPreparedAt}
use Rattle.shard_laws.specs.Locked.{IsGone}
use Rattle.shard_laws.specs.Applied.{IsApplied}
use Rattle.txn_state_laws.specs.Framed.{OfAttempt, IsLineOf}
use Rattle.txn_state_laws.specs.Justified.{Kept}
use Rattle.txn_state_laws.specs.Replied.{Replied}

-- the present attempt of a transaction is committed at a time, and a shard has applied it
pub record LineApplied (s : State) (shard : ℕ) (a : Attempt) (time : ℕ) : Type 0 where
  pub txn : TxnSession
  pub of : OfAttempt s a txn
  pub present : a.k ≡ txn.k
  pub line : Line
  pub is_line : IsLineOf txn shard line
  pub applied : IsApplied (shard_at s shard) a.call time line.reads line.shown (writes_on line (computed txn))

-- it is prepared still, or aborted, or committed at its prepare time or later and applied
pub data VoteIs (s : State) (shard : ℕ) (a : Attempt) (time : ℕ) : Type 0 where
  prepared : IsPreparedAt (shard_at s shard) a time → VoteIs s shard a time
  aborted : Kept s a Aborted → VoteIs s shard a time
  applied : (commit_time : ℕ) → Kept s a (Committed commit_time) → time ≤ commit_time → IsGone (shard_at s shard) a → LineApplied s shard a commit_time → VoteIs s shard a time

pub record AllVoted (s : State) : Type 0 where
  pub each : (shard : ℕ) (a : Attempt) (least earliest_end : ℕ) (writes : List (Key × ℕ)) (time : ℕ)
      → Replied s (Shard shard) (request.Prepare a least earliest_end writes) (reply.Prepared time) → VoteIs s shard a time
