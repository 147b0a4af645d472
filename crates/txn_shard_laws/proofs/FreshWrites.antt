-- The keys that transactions write and snapshots read: each is one of the file's, and its home has a line with it.
use Rattle.std.proofs.Common.{◌≡◌, ◌⊎◌, inl, inr, ℕ, suc, ◌<◌, Bool, true, false, List, [], ◌∷◌, ◌++◌, length, map, Option, Some, None, IsTrue, refl, sym, ap, ◌∙◌, subst, arith, All}
use Rattle.std.specs.Prelude.{if◌then◌else◌}
use Rattle.std.proofs.lemmas.Bool.{true≢false, or_left, or_right, or_cases}
use Rattle.rss_names.specs.declared.service.Key.{Key}
use Rattle.rss_names.specs.Services.{same_key}
use Rattle.rss_names.proofs.Services.{same_key-Decides}
use Rattle.pipeline_lang.specs.Config.{home_of}
use Rattle.pipeline_lang.specs.declared.config.Config.{Config}
use Rattle.pipeline_lang.specs.declared.script.Expr.{Expr}
use Rattle.rss_model.specs.declared.op.Op.TheVariants as op
use Rattle.rss_tables.specs.Lines.{Line, lines_of, line_at}
use Rattle.rss_tables.specs.Locks.{has_key}
use Rattle.rss_tables.specs.SnapshotSession.{SnapSession}
use Rattle.rss_tables.specs.TransactionSession.{TxnSession, written_keys}
use Rattle.rss_machine.specs.State.{State, owner_at}
use Rattle.rss_machine.specs.declared.session.Session.TheVariants as session
use Rattle.shard_laws.specs.Committed.{written_value}
use Rattle.session_laws.specs.Frames.{frames_of, nth_line, IsLine}
use Rattle.session_laws.proofs.Frames.{frames_length, frames_shard, frames_reads, frames_writes, lines_of_reads, lines_of_writes}
use Rattle.session_laws.proofs.Shown.{key_turned}
use Rattle.txn_laws.specs.Files.{IsKey}
use Rattle.txn_state_laws.specs.Framed.{AllFramed}

-- a key that has a value is among the keys of the writes
pub value_among : (f : (Key × Expr ℕ) → ℕ) (writes : List (Key × Expr ℕ)) (key : Key) (value : ℕ) → written_value (map (λ (w : Key × Expr ℕ). (w.0, f w)) writes) key ≡ Some value → has_key (written_keys writes) key ≡ true
value_among f [] key value e = absurd (let x : ◌≡◌ {A = Option ℕ} None (Some value) = e in cc)
value_among f (w ∷ writes) key value e = by_test (same_key w.0 key) refl e (value_among f writes key value)
  where
    by_test : (b : Bool) → same_key w.0 key ≡ b → (if b then Some (f w) else written_value (map (λ (u : Key × Expr ℕ). (u.0, f u)) writes) key) ≡ Some value → (written_value (map (λ (u : Key × Expr ℕ). (u.0, f u)) writes) key ≡ Some value → has_key (written_keys writes) key ≡ true) → has_key (written_keys (w ∷ writes)) key ≡ true
    by_test true s g ih = or_left (same_key key w.0) (has_key (written_keys writes) key) (key_turned w.0 key s)
    by_test false s g ih = or_right (same_key key w.0) (has_key (written_keys writes) key) (ih g)

-- what holds of each key holds of one that is among them
pub among_each : (P : Key → Type 0) (keys : List Key) (key : Key) → All P keys → has_key keys key ≡ true → P key
among_each P [] key h e = absurd (true≢false (sym e))
among_each P (k ∷ keys) key h e = by_first (or_cases (same_key key k) (has_key keys key) e) (among_each P keys key (λ i d j. h (suc i) d (omega (arith, j))))
  where
    by_first : (same_key key k ≡ true) ⊎ (has_key keys key ≡ true) → (has_key keys key ≡ true → P key) → P key
    by_first (inl s) ih = subst P (sym ((same_key-Decides key k).0 s)) (h 0 k (omega arith))
    by_first (inr s) ih = ih s

-- a key among the second of two lists is among both
pub among_more : (keys more : List Key) (key : Key) → has_key more key ≡ true → has_key (keys ++ more) key ≡ true
among_more [] more key e = e
among_more (k ∷ keys) more key e = or_right (same_key key k) (has_key (keys ++ more) key) (among_more keys more key e)

-- a line on a shard that writes a key, and one that reads it
pub record WritesThere (lines : List Line) (shard : ℕ) (key : Key) : Type 0 where
  pub place : ℕ
  pub inside : place < length lines
  pub on : (nth_line lines place).shard ≡ shard
  pub writes : has_key (nth_line lines place).writes key ≡ true

pub record ReadsThere (lines : List Line) (shard : ℕ) (key : Key) : Type 0 where
  pub place : ℕ
  pub inside : place < length lines
  pub on : (nth_line lines place).shard ≡ shard
  pub reads : has_key (nth_line lines place).reads key ≡ true

-- a key that a transaction writes is one of the file's
pub written_is_key : (c : Config) (s : State) → AllFramed c s → (o : ℕ) (x : TxnSession) → (owner_at s o).session ≡ session.Transaction x → (key : Key) → has_key (written_keys x.writes) key ≡ true → IsKey c key
written_is_key c s f o x e key h = among_each (IsKey c) (x.reads ++ written_keys x.writes) key (f.ops o (op.Txn x.reads x.guard x.writes) (f.txn o x e).of_kind).keys (among_more x.reads (written_keys x.writes) key h)

-- and so is one that a snapshot reads
pub read_is_key : (c : Config) (s : State) → AllFramed c s → (o : ℕ) (x : SnapSession) → (owner_at s o).session ≡ session.Snapshot x → (key : Key) → has_key x.keys key ≡ true → IsKey c key
read_is_key c s f o x e key h = among_each (IsKey c) x.keys key (f.ops o (op.Snap x.keys) (f.snap o x e).of_kind).keys h

-- a transaction has a line at the home of each key that it writes
pub written_there : (c : Config) (s : State) → AllFramed c s → (o : ℕ) (x : TxnSession) → (owner_at s o).session ≡ session.Transaction x → (key : Key) → has_key (written_keys x.writes) key ≡ true → WritesThere x.lines (home_of c key.index) key
written_there c s f o x e key h = record {
  place = there.2.place;
  inside = subst (λ (n : ℕ). there.2.place < n) (sym (frames_length x.lines (lines_of (home_of c) x.reads (written_keys x.writes)) same)) there.2.inside;
  on = frames_shard x.lines (lines_of (home_of c) x.reads (written_keys x.writes)) same there.2.place ∙ ap (λ (l : Line). l.shard) there.2.at ∙ there.1;
  writes = ap (λ (keys : List Key). has_key keys key) (frames_writes x.lines (lines_of (home_of c) x.reads (written_keys x.writes)) same there.2.place ∙ ap (λ (l : Line). l.writes) there.2.at) ∙ there.0;
}
  where
    same : frames_of x.lines ≡ frames_of (lines_of (home_of c) x.reads (written_keys x.writes))
    same = (f.txn o x e).frames.frames

    is_key : IsKey c key
    is_key = written_is_key c s f o x e key h

    there : IsTrue (has_key (line_at (lines_of (home_of c) x.reads (written_keys x.writes)) (home_of c key.index)).writes key) × ((line_at (lines_of (home_of c) x.reads (written_keys x.writes)) (home_of c key.index)).shard ≡ home_of c key.index) × IsLine (lines_of (home_of c) x.reads (written_keys x.writes)) (line_at (lines_of (home_of c) x.reads (written_keys x.writes)) (home_of c key.index))
    there = lines_of_writes (home_of c) x.reads (written_keys x.writes) key h is_key.first is_key.most

-- and a snapshot one at the home of each key that it reads
pub read_there : (c : Config) (s : State) → AllFramed c s → (o : ℕ) (x : SnapSession) → (owner_at s o).session ≡ session.Snapshot x → (key : Key) → has_key x.keys key ≡ true → ReadsThere x.lines (home_of c key.index) key
read_there c s f o x e key h = record {
  place = there.2.place;
  inside = subst (λ (n : ℕ). there.2.place < n) (sym (frames_length x.lines (lines_of (home_of c) x.keys []) same)) there.2.inside;
  on = frames_shard x.lines (lines_of (home_of c) x.keys []) same there.2.place ∙ ap (λ (l : Line). l.shard) there.2.at ∙ there.1;
  reads = ap (λ (keys : List Key). has_key keys key) (frames_reads x.lines (lines_of (home_of c) x.keys []) same there.2.place ∙ ap (λ (l : Line). l.reads) there.2.at) ∙ there.0;
}
  where
    same : frames_of x.lines ≡ frames_of (lines_of (home_of c) x.keys [])
    same = (f.snap o x e).frames.frames

    is_key : IsKey c key
    is_key = read_is_key c s f o x e key h

    there : IsTrue (has_key (line_at (lines_of (home_of c) x.keys []) (home_of c key.index)).reads key) × ((line_at (lines_of (home_of c) x.keys []) (home_of c key.index)).shard ≡ home_of c key.index) × IsLine (lines_of (home_of c) x.keys []) (line_at (lines_of (home_of c) x.keys []) (home_of c key.index))
    there = lines_of_reads (home_of c) x.keys [] key h is_key.first is_key.most
