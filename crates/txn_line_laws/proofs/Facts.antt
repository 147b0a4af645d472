-- All that holds of transactions, snapshots and shards in a state, on which the facts of the line stand.
use Rattle.std.proofs.Common.{◌≡◌, ℕ, ◌<◌, ◌≤◌, Bool, true, false, List, [], ◌∷◌, ◌++◌, All, length, Some, None, refl, sym, ap, ◌∙◌, subst, arith}
use Rattle.std.specs.Prelude.{◌||◌, map, if◌then◌else◌}
use Rattle.std.specs.List.{list_any}
use Rattle.std.proofs.lemmas.List.Elements.{All-nil, All-cons, All-head, All-tail}
use Rattle.rss_names.specs.Services.{same_key}
use Rattle.rss_names.specs.declared.attempt.Attempt.{Attempt}
use Rattle.rss_names.specs.declared.service.Key.{Key}
use Rattle.pipeline_lang.specs.Config.{home_of}
use Rattle.pipeline_lang.specs.declared.config.Config.{Config}
use Rattle.pipeline_lang.specs.declared.script.Expr.{Expr}
use Rattle.rss_model.specs.declared.op.Op.TheVariants as op
use Rattle.rss_wire.specs.declared.messages.Outcome.TheVariants.{Committed}
use Rattle.rss_tables.specs.Lines.{Line, lines_of, coordinator_of}
use Rattle.rss_tables.specs.Locks.{has_key}
use Rattle.rss_tables.specs.ShardRow.{decision_in}
use Rattle.rss_tables.specs.SnapshotSession.{SnapSession}
use Rattle.rss_tables.specs.TransactionSession.{TxnSession, attempt_of, computed, written_keys, greatest_prepared}
use Rattle.rss_machine.specs.Places.{commit_of}
use Rattle.rss_machine.specs.State.{State, owner_at, shard_at}
use Rattle.rss_machine.specs.declared.session.Session.TheVariants as session
use Rattle.world_laws.specs.Exchanges.{Exchanges}
use Rattle.shard_laws.specs.Committed.{written_value}
use Rattle.session_laws.specs.Frames.{Frame, frame_of, frames_of, nth_line, IsLine}
use Rattle.session_laws.proofs.Frames.{frames_length, frames_nth, lines_of_reads, lines_of_writes}
use Rattle.session_laws.proofs.Shown.{key_turned}
use Rattle.txn_state_laws.specs.Closed.{AllClosed}
use Rattle.txn_state_laws.specs.Dated.{AllDated}
use Rattle.txn_state_laws.specs.Decided.{AllDecided, DecidedIs, CommitsAt}
use Rattle.txn_laws.specs.Files.{IsKey}
use Rattle.txn_state_laws.specs.Framed.{AllFramed, TxnFramed, OfAttempt}
use Rattle.txn_state_laws.specs.Fresh.{AllFresh}
use Rattle.txn_state_laws.specs.Orderly.{AllOrderly}
use Rattle.txn_state_laws.specs.Told.{AllTold}
use Rattle.txn_state_laws.specs.Voted.{AllVoted}
use Rattle.txn_decision_laws.specs.Entered.{AllEntered}
use Rattle.fence_laws.specs.Laws.{MomentsRise}
use Rattle.txn_state_laws.proofs.Grows.{one_txn, present_is, coordinator_first, txn_is}
use Rattle.txn_line_laws.proofs.Commits.{once_reached, IsDecision, commit_found, commit_there}

pub record Facts (c : Config) (s : State) : Type 0 where
  pub sound : Exchanges s.net
  pub framed : AllFramed c s
  pub told : AllTold s
  pub decided : AllDecided s
  pub orderly : AllOrderly c s
  pub voted : AllVoted s
  pub closed : AllClosed s
  pub dated : AllDated s
  pub fresh : AllFresh s
  pub rises : MomentsRise s
  pub entered : AllEntered s

-- keys that are the same are equal
key_is : (a b : Key) → same_key a b ≡ true → a ≡ b
key_is a b e = by_keys a b e
  where
    by_keys : (a b : Key) → same_key a b ≡ true → a ≡ b
    by_keys a b e = grind (arith, e)

-- a key of a list has what all of it has
pub of_key : (P : Key → Type 0) (keys : List Key) (key : Key) → All P keys → has_key keys key ≡ true → P key
of_key P [] key h e = absurd (false_is_not e)
  where
    false_is_not : false ≡ true → ⊥
    false_is_not f = cc
of_key P (k ∷ keys) key h e = by_first (same_key key k) refl e (λ f. of_key P keys key (All-tail P k keys h) f)
  where
    by_first : (b : Bool) → same_key key k ≡ b → (b || list_any (same_key key) keys) ≡ true → (list_any (same_key key) keys ≡ true → P key) → P key
    by_first true f g ih = subst P (sym (key_is key k f)) (All-head P k keys h)
    by_first false f g ih = ih g

-- a value that is computed is of a key that is written
pub computed_key : (writes : List (Key × Expr ℕ)) (values : (Key × Expr ℕ) → ℕ) (key : Key) (value : ℕ) → written_value (map (λ (w : Key × Expr ℕ). (w.0, values w)) writes) key ≡ Some value → has_key (written_keys writes) key ≡ true
computed_key [] values key value e = absurd (none_is e)
  where
    none_is : None ≡ Some value → ⊥
    none_is f = cc
computed_key (w ∷ writes) values key value e = by_first (same_key w.0 key) refl e (λ f. computed_key writes values key value f)
  where
    or_true : (b : Bool) → (b || true) ≡ true
    or_true true = refl
    or_true false = refl

    by_first : (b : Bool) → same_key w.0 key ≡ b → (if b then Some (values w) else written_value (map (λ (v : Key × Expr ℕ). (v.0, values v)) writes) key) ≡ Some value → (written_value (map (λ (v : Key × Expr ℕ). (v.0, values v)) writes) key ≡ Some value → has_key (written_keys writes) key ≡ true) → (same_key key w.0 || list_any (same_key key) (written_keys writes)) ≡ true
    by_first true f g ih = ap (λ (b : Bool). b || list_any (same_key key) (written_keys writes)) (key_turned w.0 key f)
    by_first false f g ih = ap (λ (b : Bool). same_key key w.0 || b) (ih g) ∙ or_true (same_key key w.0)

-- a line of the home of a key
pub record HomeLine (c : Config) (lines : List Line) (key : Key) (keys_of : Line → List Key) : Type 0 where
  pub place : ℕ
  pub inside : place < length lines
  pub on : (nth_line lines place).shard ≡ home_of c key.index
  pub has : has_key (keys_of (nth_line lines place)) key ≡ true
  pub is_key : IsKey c key

abbrev pub reads_of : Line → List Key
reads_of l = l.reads

abbrev pub writes_of : Line → List Key
writes_of l = l.writes

home_line : (c : Config) (lines opened : List Line) (key : Key) (l : Line) → frames_of lines ≡ frames_of opened → IsLine opened l → l.shard ≡ home_of c key.index → IsKey c key → (keys_of : Line → List Key) → ((a b : Line) → frame_of a ≡ frame_of b → keys_of a ≡ keys_of b) → has_key (keys_of l) key ≡ true → HomeLine c lines key keys_of
home_line c lines opened key l e i on k keys_of same has =
    let f : frame_of (nth_line lines i.place) ≡ frame_of l = frames_nth lines opened e i.place ∙ ap frame_of i.at in
    record {
      place = i.place;
      inside = subst (λ (n : ℕ). i.place < n) (sym (frames_length lines opened e)) i.inside;
      on = ap (λ (x : Frame). x.shard) f ∙ on;
      has = ap (λ (keys : List Key). has_key keys key) (same (nth_line lines i.place) l f) ∙ has;
      is_key = k;
    }

same_reads : (a b : Line) → frame_of a ≡ frame_of b → a.reads ≡ b.reads
same_reads a b e = ap (λ (f : Frame). f.reads) e

same_writes : (a b : Line) → frame_of a ≡ frame_of b → a.writes ≡ b.writes
same_writes a b e = ap (λ (f : Frame). f.writes) e

all_first : (P : Key → Type 0) (xs ys : List Key) → All P (xs ++ ys) → All P xs
all_first P [] ys h = All-nil P
all_first P (x ∷ xs) ys h = All-cons P x xs (All-head P x (xs ++ ys) h) (all_first P xs ys (All-tail P x (xs ++ ys) h))

all_last : (P : Key → Type 0) (xs ys : List Key) → All P (xs ++ ys) → All P ys
all_last P [] ys h = h
all_last P (x ∷ xs) ys h = all_last P xs ys (All-tail P x (xs ++ ys) h)

-- what a commit time says: it is the decision of the present attempt, which asked for it once all had voted
pub record CommitKnown (s : State) (x : TxnSession) (time : ℕ) : Type 0 where
  pub kept : decision_in (shard_at s (coordinator_of x.lines)).decisions (attempt_of x) ≡ Some (Committed time)
  pub at : CommitsAt x.phase time
  pub upto : greatest_prepared x.lines ≤ time

module _ (c : Config) (s : State) (h : Facts c s) where
  pub txn_framed : (o : ℕ) (x : TxnSession) → (owner_at s o).session ≡ session.Transaction x → TxnFramed c s o x
  txn_framed o x e = h.framed.txn o x e

  txn_keys : (o : ℕ) (x : TxnSession) → (owner_at s o).session ≡ session.Transaction x → All (IsKey c) (x.reads ++ written_keys x.writes)
  txn_keys o x e = (h.framed.ops o (op.Txn x.reads x.guard x.writes) (h.framed.txn o x e).of_kind).keys

  pub txn_reads : (o : ℕ) (x : TxnSession) (key : Key) → (owner_at s o).session ≡ session.Transaction x → has_key x.reads key ≡ true → HomeLine c x.lines key reads_of
  txn_reads o x key e f =
      let k : IsKey c key = of_key (IsKey c) x.reads key (all_first (IsKey c) x.reads (written_keys x.writes) (txn_keys o x e)) f in
      let g = lines_of_reads (home_of c) x.reads (written_keys x.writes) key f k.first k.most in
      home_line c x.lines (lines_of (home_of c) x.reads (written_keys x.writes)) key _ (h.framed.txn o x e).frames.frames g.2 g.1 k reads_of same_reads g.0

  pub txn_writes : (o : ℕ) (x : TxnSession) (key : Key) (value : ℕ) → (owner_at s o).session ≡ session.Transaction x → written_value (computed x) key ≡ Some value → HomeLine c x.lines key writes_of
  txn_writes o x key value e f =
      let w : has_key (written_keys x.writes) key ≡ true = computed_key x.writes _ key value f in
      let k : IsKey c key = of_key (IsKey c) (written_keys x.writes) key (all_last (IsKey c) x.reads (written_keys x.writes) (txn_keys o x e)) w in
      let g = lines_of_writes (home_of c) x.reads (written_keys x.writes) key w k.first k.most in
      home_line c x.lines (lines_of (home_of c) x.reads (written_keys x.writes)) key _ (h.framed.txn o x e).frames.frames g.2 g.1 k writes_of same_writes g.0

  pub snap_reads : (o : ℕ) (x : SnapSession) (key : Key) → (owner_at s o).session ≡ session.Snapshot x → has_key x.keys key ≡ true → HomeLine c x.lines key reads_of
  snap_reads o x key e f =
      let k : IsKey c key = of_key (IsKey c) x.keys key (h.framed.ops o (op.Snap x.keys) (h.framed.snap o x e).of_kind).keys f in
      let g = lines_of_reads (home_of c) x.keys [] key f k.first k.most in
      home_line c x.lines (lines_of (home_of c) x.keys []) key _ (h.framed.snap o x e).frames.frames g.2 g.1 k reads_of same_reads g.0

  -- the present attempt of a transaction
  pub present : (o : ℕ) (x : TxnSession) → (owner_at s o).session ≡ session.Transaction x → OfAttempt s (attempt_of x) x
  present o x e = let f = h.framed.txn o x e in record { under_way = ap (λ (n : ℕ). (owner_at s n).session) f.call ∙ e; first = f.attempts; last = omega arith }

  pub decision_known : (o time : ℕ) (x : TxnSession) (a : Attempt) → (owner_at s o).session ≡ session.Transaction x → a.call ≡ o → decision_in (shard_at s (coordinator_of x.lines)).decisions a ≡ Some (Committed time) → CommitKnown s x time
  decision_known o time x a e f k =
      let g = h.framed.txn o x e in
      let d : DecidedIs s (coordinator_of x.lines) a (Committed time) = h.decided.at (coordinator_of x.lines) a (Committed time) (coordinator_first c x.lines g.lines) k in
      let p : OfAttempt s a x = record { under_way = ap (λ (n : ℕ). (owner_at s n).session) f ∙ e; first = d.of.first; last = upto a d.txn d.of (same d.txn a d.of f) } in
      let q = one_txn s a d.txn x d.of p in
      let b = subst (λ (y : TxnSession). (a.k ≡ y.k) × CommitsAt y.phase time × (greatest_prepared y.lines ≤ time)) q (d.committed time refl) in
      record { kept = ap (λ (z : Attempt). decision_in (shard_at s (coordinator_of x.lines)).decisions z) (present_is c s h.framed a x p b.0) ∙ k; at = b.1; upto = b.2 }
    where
      same : (y : TxnSession) (a : Attempt) → OfAttempt s a y → a.call ≡ o → y ≡ x
      same y a i j = txn_is y x (sym i.under_way ∙ ap (λ (n : ℕ). (owner_at s n).session) j ∙ e)

      upto : (a : Attempt) (y : TxnSession) → OfAttempt s a y → y ≡ x → a.k ≤ x.k
      upto a y i j = subst (λ (z : TxnSession). a.k ≤ z.k) j i.last

  pub commit_known : (o time : ℕ) (x : TxnSession) → (owner_at s o).session ≡ session.Transaction x → commit_of s x ≡ Some time → CommitKnown s x time
  commit_known o time x e f =
      let sigma = coordinator_of x.lines in
      let d : IsDecision (shard_at s sigma).decisions x.call time = commit_found (shard_at s sigma).decisions x.call time (once_reached (shard_at s sigma) (h.orderly.orderly sigma).reached) f in
      decision_known o time x d.attempt e (d.of ∙ (h.framed.txn o x e).call) d.kept

  pub commit_is : (o time : ℕ) (x : TxnSession) → (owner_at s o).session ≡ session.Transaction x → decision_in (shard_at s (coordinator_of x.lines)).decisions (attempt_of x) ≡ Some (Committed time) → commit_of s x ≡ Some time
  commit_is o time x e k = by_time (commit_there (shard_at s (coordinator_of x.lines)).decisions (attempt_of x) time k)
    where
      same_time : (t : ℕ) → Some (Committed t) ≡ Some (Committed time) → t ≡ time
      same_time t i = cc

      by_time : (t : ℕ) × (commit_of s x ≡ Some t) → commit_of s x ≡ Some time
      by_time y = let d = commit_known o y.0 x e y.1 in y.1 ∙ ap Some (same_time y.0 (sym d.kept ∙ k))
