-- What the places of calls need of a state: it holds in every run.
use Rattle.std.specs.Prelude.{◌≡◌, ℕ, ◌<◌, ◌≤◌, length}
use Rattle.std.specs.List.Sorted.{IsNonDecreasing}
use Rattle.rss_tables.specs.Lines.{coordinator_of}
use Rattle.rss_tables.specs.ShardRow.{decision_in}
use Rattle.rss_tables.specs.TransactionSession.{TxnSession, attempt_of}
use Rattle.rss_machine.specs.Places.{commit_of}
use Rattle.rss_machine.specs.State.{State, owner_at, shard_at}
use Rattle.rss_machine.specs.declared.session.Session.TheVariants as session
use Rattle.txn_line_laws.specs.Laws.{InRuns}
use Rattle.txn_world.specs.Shards.{time_kept}

pub record PlaceFacts (s : State) : Type 0 where
  pub moments : IsNonDecreasing s.moments
  pub commits : (o : ℕ) (x : TxnSession) → (owner_at s o).session ≡ session.Transaction x
      → commit_of s x ≡ time_kept (decision_in (shard_at s (coordinator_of x.lines)).decisions (attempt_of x))
  pub lines : (o : ℕ) (x : TxnSession) → (owner_at s o).session ≡ session.Transaction x → 0 < length x.lines
  pub coordinators : (o : ℕ) (x : TxnSession) → (owner_at s o).session ≡ session.Transaction x → coordinator_of x.lines ≤ length s.shards

-- so in every run of a file whose transactions name its keys, where readings begin no later than they end
abbrev pub RunsKeepPlaceFacts : Type 0
RunsKeepPlaceFacts = InRuns PlaceFacts
