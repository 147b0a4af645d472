-- What never changes of what owners have under way with shards.
use Rattle.std.specs.Prelude.{◌≡◌, ℕ, ◌<◌, ◌≤◌, List, length, Some}
use Rattle.rss_names.specs.declared.attempt.Attempt.{Attempt}
use Rattle.pipeline_lang.specs.Config.{home_of}
use Rattle.pipeline_lang.specs.declared.config.Config.{Config}
use Rattle.rss_model.specs.declared.op.Op.{Op}
use Rattle.rss_model.specs.declared.op.Op.TheVariants as op
use Rattle.rss_tables.specs.Lines.{Line, shards_of}
use Rattle.rss_tables.specs.SnapshotSession.{SnapSession}
use Rattle.rss_tables.specs.TransactionSession.{TxnSession}
use Rattle.rss_machine.specs.Calls.{least_for}
use Rattle.rss_machine.specs.Session.{service_of}
use Rattle.rss_machine.specs.State.{State, owner_at}
use Rattle.rss_machine.specs.declared.session.OwnerKind.TheVariants as kind
use Rattle.rss_machine.specs.declared.session.Session.TheVariants as session
use Rattle.session_laws.specs.Frames.{HasTxnFrames, HasSnapFrames, IsLine, AreApartShards, nth_line}
use Rattle.txn_laws.specs.Files.{OpNamed}

-- there is a line, each is on a shard of the file, and no two are on one
pub record LinesFit (c : Config) (lines : List Line) : Type 0 where
  pub some : 0 < length lines
  pub first : (place : ℕ) → place < length lines → 1 ≤ (nth_line lines place).shard
  pub last : (place : ℕ) → place < length lines → (nth_line lines place).shard ≤ length c.shard_services
  pub apart : AreApartShards lines

-- a transaction of an owner: its operation is the owner's, its lines are those of its keys, and its least time is
-- that of the owner's copy
pub record TxnFramed (c : Config) (s : State) (o : ℕ) (x : TxnSession) : Type 0 where
  pub numbered : 0 < o
  pub of_kind : (owner_at s o).kind ≡ kind.Calling (op.Txn x.reads x.guard x.writes)
  pub call : x.call ≡ o
  pub attempts : 1 ≤ x.k
  pub frames : HasTxnFrames (home_of c) x
  pub lines : LinesFit c x.lines
  pub least : x.least ≡ least_for s o (service_of (op.Txn x.reads x.guard x.writes))

pub record SnapFramed (c : Config) (s : State) (o : ℕ) (x : SnapSession) : Type 0 where
  pub numbered : 0 < o
  pub of_kind : (owner_at s o).kind ≡ kind.Calling (op.Snap x.keys)
  pub call : x.call ≡ o
  pub frames : HasSnapFrames (home_of c) x
  pub lines : LinesFit c x.lines
  pub least : x.least ≡ least_for s o (service_of (op.Snap x.keys))

-- an attempt is one of a transaction, the present one or an earlier one
pub record OfAttempt (s : State) (a : Attempt) (x : TxnSession) : Type 0 where
  pub under_way : (owner_at s a.call).session ≡ session.Transaction x
  pub first : 1 ≤ a.k
  pub last : a.k ≤ x.k

-- what a stub settles is an attempt of a transaction, with its shards
pub record StubFramed (s : State) (a : Attempt) (shards : List ℕ) : Type 0 where
  pub txn : TxnSession
  pub of : OfAttempt s a txn
  pub shards_are : shards ≡ shards_of txn.lines

-- a line of a transaction on a shard
pub record IsLineOf (x : TxnSession) (shard : ℕ) (l : Line) : Type 0 where
  pub is : IsLine x.lines l
  pub on : l.shard ≡ shard

pub record AllFramed (c : Config) (s : State) : Type 0 where
  pub shards : length s.shards ≡ length c.shard_services
  pub txn : (o : ℕ) (x : TxnSession) → (owner_at s o).session ≡ session.Transaction x → TxnFramed c s o x
  pub snap : (o : ℕ) (x : SnapSession) → (owner_at s o).session ≡ session.Snapshot x → SnapFramed c s o x
  pub stub : (o : ℕ) (a : Attempt) (shards : List ℕ) → (owner_at s o).kind ≡ kind.Stubbing (Some (a, shards)) → StubFramed s a shards
  pub settles : (o : ℕ) (a : Attempt) (shards : List ℕ) → (owner_at s o).session ≡ session.Settling a shards → (owner_at s o).kind ≡ kind.Stubbing (Some (a, shards))
  pub ops : (o : ℕ) (x : Op) → (owner_at s o).kind ≡ kind.Calling x → OpNamed c x
