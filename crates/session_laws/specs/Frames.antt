-- What never changes of the lines of a session: their shards, and the keys that their call reads and writes there.
use Rattle.std.specs.Prelude.{◌≡◌, ℕ, ◌<◌, List, [], length, map, get_or}
use Rattle.rss_names.specs.declared.service.Key.{Key}
use Rattle.rss_tables.specs.Lines.{Line, lines_of, no_line}
use Rattle.rss_tables.specs.SnapshotSession.{SnapSession}
use Rattle.rss_tables.specs.TransactionSession.{TxnSession, written_keys}

pub record Frame : Type 0 where
  pub shard : ℕ
  pub reads : List Key
  pub writes : List Key

abbrev pub frame_of : Line → Frame
frame_of l = record { shard = l.shard; reads = l.reads; writes = l.writes }

abbrev pub frames_of : List Line → List Frame
frames_of lines = map frame_of lines

-- the line of a place, counted from 0
abbrev pub nth_line : List Line → ℕ → Line
nth_line lines i = get_or lines i no_line

-- a line is one of these
pub record IsLine (lines : List Line) (l : Line) : Type 0 where
  pub place : ℕ
  pub inside : place < length lines
  pub at : nth_line lines place ≡ l

-- no two lines have the same shard
abbrev pub AreApartShards : List Line → Type 0
AreApartShards lines = (i j : ℕ) → i < length lines → j < length lines → (nth_line lines i).shard ≡ (nth_line lines j).shard → i ≡ j

-- the lines of a transaction are those of its keys
pub record HasTxnFrames (home : ℕ → ℕ) (t : TxnSession) : Type 0 where
  pub frames : frames_of t.lines ≡ frames_of (lines_of home t.reads (written_keys t.writes))

pub record HasSnapFrames (home : ℕ → ℕ) (t : SnapSession) : Type 0 where
  pub frames : frames_of t.lines ≡ frames_of (lines_of home t.keys [])

-- what a transaction keeps in all its attempts
pub record SameTxn (t u : TxnSession) : Type 0 where
  pub call : u.call ≡ t.call
  pub reads : u.reads ≡ t.reads
  pub guard : u.guard ≡ t.guard
  pub writes : u.writes ≡ t.writes
  pub least : u.least ≡ t.least
  pub margin : u.margin ≡ t.margin
  pub frames : frames_of u.lines ≡ frames_of t.lines

pub record SameSnap (t u : SnapSession) : Type 0 where
  pub call : u.call ≡ t.call
  pub keys : u.keys ≡ t.keys
  pub least : u.least ≡ t.least
  pub frames : frames_of u.lines ≡ frames_of t.lines
