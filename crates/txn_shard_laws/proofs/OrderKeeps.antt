-- Shards stay orderly through each event.
use Rattle.std.proofs.Common.{◌≡◌, ◌⊎◌, inl, inr, ℕ, ◌+◌, ◌-◌, ◌<◌, ◌≤◌, true, List, length, filter, Some, IsTrue, sym, ap, ◌∙◌, subst, arith}
use Rattle.truetime.specs.Reading.{Reading}
use Rattle.rss_names.specs.declared.attempt.Attempt.{Attempt}
use Rattle.rss_names.specs.declared.service.Key.{Key}
use Rattle.rss_names.specs.declared.service.Target.TheVariants.{Shard}
use Rattle.pipeline_lang.specs.Config.{home_of}
use Rattle.pipeline_lang.specs.declared.config.Config.{Config}
use Rattle.rss_wire.specs.declared.messages.Reply.TheVariants as reply
use Rattle.rss_wire.specs.declared.messages.Request.{Request}
use Rattle.rss_wire.specs.declared.messages.Request.TheVariants.{Lock, Prepare}
use Rattle.rss_wire.specs.declared.messages.Version.{Version}
use Rattle.rss_tables.specs.Lines.{Line}
use Rattle.rss_tables.specs.Locks.{LockHolder, has_key}
use Rattle.rss_tables.specs.Prepared.{PreparedWriter, prepared_of}
use Rattle.rss_tables.specs.ShardRow.{Shard as ShardState, shard_after, shard_reply}
use Rattle.rss_tables.specs.TransactionSession.{TxnSession, computed, writes_on}
use Rattle.rss_tables.specs.declared.phases.TxnPhase.TheVariants as phase
use Rattle.rss_machine.specs.State.{State, shard_at}
use Rattle.shard_laws.specs.Changes.{IsPreparedBy}
use Rattle.shard_laws.specs.Committed.{keeps_key}
use Rattle.shard_laws.specs.Entries.{holder_of}
use Rattle.shard_laws.specs.Locked.{IsGone}
use Rattle.session_laws.specs.Frames.{Frame}
use Rattle.shard_laws.specs.Orderly.{IsOrderly, HoldsShown}
use Rattle.shard_laws.proofs.Releases.{keys_after}
use Rattle.shard_laws.proofs.Found.{prepared_attempt, prepared_itself}
use Rattle.shard_laws.proofs.Holders.{holder_from, granted_holds}
use Rattle.shard_laws.proofs.Orderly.{orderly_kept}
use Rattle.shard_laws.proofs.Prepares.{prepare_from}
use Rattle.shard_laws.proofs.Stays.{shown_stay, gone_stay}
use Rattle.txn_state_laws.specs.Framed.{AllFramed, IsLineOf}
use Rattle.txn_state_laws.specs.Justified.{AllJust, LockIs, PrepareIs, PreparesNow, may_be_prepared}
use Rattle.txn_state_laws.specs.Onward.{AllOnward, Between, TxnOnward}
use Rattle.txn_state_laws.specs.Orderly.{AllOrderly, AllInOrder, HeldIs, PreparedIs}
use Rattle.txn_state_laws.specs.Replied.{Replied}
use Rattle.txn_state_laws.proofs.Grows.{one_txn, one_line, line_first, line_last, attempt_grows, line_grows}
use Rattle.txn_state_laws.proofs.Replies.{Quiet, Serves, event_does, quiet_reply, served_reply, ReplyComes, was, comes}
use Rattle.txn_state_laws.proofs.Serves.{asked_lock, asked_prepare, ShardGoes, stays, serves, goes, served_there, served_order}

-- who holds locks goes on with its line
pub held_grows : (s t : State) → AllOnward s t → (shard : ℕ) (a : Attempt) (h : LockHolder) → HeldIs s shard a h → HeldIs t shard a h
held_grows s t w shard a h d =
    let g = attempt_grows s t w a d.txn d.of in
    let l = line_grows d.txn g.txn g.onward shard d.line d.is_line in
    record {
      txn = g.txn;
      of = g.of;
      line = l.line;
      is_line = l.is_line;
      reads_are = d.reads_are ∙ ap (λ (f : Frame). f.reads) (sym l.frame);
      writes_are = d.writes_are ∙ ap (λ (f : Frame). f.writes) (sym l.frame);
    }

-- the same keys are written
pub writes_same : (l m : Line) (writes : List (Key × ℕ)) → l.writes ≡ m.writes → writes_on l writes ≡ writes_on m writes
writes_same l m writes e = ap (λ (keys : List Key). filter (λ (w : Key × ℕ). has_key keys w.0) writes) e

-- what the present attempt asked for, it goes on asking for
pub prepares_grow : (x y : TxnSession) (a : Attempt) (l m : Line) (earliest_end : ℕ) (writes : List (Key × ℕ)) → TxnOnward x y → a.k ≤ x.k → l.writes ≡ m.writes → (a.k ≡ x.k → PreparesNow x l earliest_end writes) → a.k ≡ y.k → PreparesNow y m earliest_end writes
prepares_grow x y a l m earliest_end writes w b e f i = by_later w.later
  where
    by_later : (y.k ≡ x.k) ⊎ ((y.k ≡ x.k + 1) × (y.phase ≡ phase.Locking)) → PreparesNow y m earliest_end writes
    by_later (inl j) =
        let n = f (i ∙ j) in
        let o : (may_be_prepared y.phase ≡ true) × (y.earliest_end ≡ x.earliest_end) × (computed y ≡ computed x) = (w.attempt j).prepared n.may in
        record {
          may = o.0;
          ends = n.ends ∙ sym o.1;
          writes_are = n.writes_are ∙ writes_same l m (computed x) e ∙ ap (writes_on m) (sym o.2);
        }
    by_later (inr j) = let k = j.0 in absurd (omega (arith, b, i, k))

-- who is prepared goes on with its line
pub prepared_grows : (s t : State) → AllOnward s t → (shard : ℕ) (a : Attempt) (p : PreparedWriter) → PreparedIs s shard a p → PreparedIs t shard a p
prepared_grows s t w shard a p d =
    let g = attempt_grows s t w a d.txn d.of in
    let l = line_grows d.txn g.txn g.onward shard d.line d.is_line in
    let same : d.line.writes ≡ l.line.writes = ap (λ (f : Frame). f.writes) (sym l.frame) in
    record {
      txn = g.txn;
      of = g.of;
      line = l.line;
      is_line = l.is_line;
      above = subst (λ (n : ℕ). n < p.prepare_time) (sym g.onward.same.least) d.above;
      fits = λ key k. ap (λ (keys : List Key). has_key keys key) (sym same) ∙ d.fits key k;
      now = prepares_grow d.txn g.txn a d.line l.line p.earliest_end p.writes g.onward d.of.last same d.now;
    }

-- shards of one place are one, but for shard 0
same_place : (n shard : ℕ) → 1 ≤ n → 1 ≤ shard → n - 1 ≡ shard - 1 → shard ≡ n
same_place n shard a b e = omega (arith, a, b, e)

-- who asked for the locks that it holds
held_by_lock : (c : Config) (s : State) → AllFramed c s → (n shard : ℕ) → 1 ≤ n → n - 1 ≡ shard - 1 → (a : Attempt) (h : LockHolder) → LockIs s shard a h.coordinator h.reads h.writes → HeldIs s n a h
held_by_lock c s f n shard first e a h l =
    let fit = (f.txn a.call l.txn l.of.under_way).lines in
    record {
      txn = l.txn;
      of = l.of;
      line = l.line;
      is_line = subst (λ (i : ℕ). IsLineOf l.txn i l.line) (same_place n shard first (line_first c l.txn fit shard l.line l.is_line) e) l.is_line;
      reads_are = l.reads_are;
      writes_are = l.writes_are;
    }

-- who asked to be prepared with what it is prepared with
prepared_by_prepare : (c : Config) (s : State) → AllFramed c s → (n shard : ℕ) → 1 ≤ n → n - 1 ≡ shard - 1 → (a : Attempt) (least : ℕ) (p : PreparedWriter) → least < p.prepare_time → PrepareIs s shard a least p.earliest_end p.writes → PreparedIs s n a p
prepared_by_prepare c s f n shard first e a least p above l =
    let fit = (f.txn a.call l.txn l.of.under_way).lines in
    record {
      txn = l.txn;
      of = l.of;
      line = l.line;
      is_line = subst (λ (i : ℕ). IsLineOf l.txn i l.line) (same_place n shard first (line_first c l.txn fit shard l.line l.is_line) e) l.is_line;
      above = subst (λ (i : ℕ). i < p.prepare_time) l.least_is above;
      fits = l.fits;
      now = l.now;
    }

-- who is granted its locks now holds just those of its line
same_reads : (a : Attempt) (k l : ℕ) (reads writes more others : List Key) → ◌≡◌ {A = Request} (Lock a k reads writes) (Lock a l more others) → more ≡ reads
same_reads a k l reads writes more others e = cc

same_writes : (a : Attempt) (k l : ℕ) (reads writes more others : List Key) → ◌≡◌ {A = Request} (Lock a k reads writes) (Lock a l more others) → others ≡ writes
same_writes a k l reads writes more others e = cc

lock_shown : (c : Config) (s : State) → AllFramed c s → AllOrderly c s → (shard latest : ℕ) (a : Attempt) (coordinator : ℕ) (reads writes : List Key) (shown : List (Key × Version)) → LockIs s shard a coordinator reads writes
    → shard_reply (shard_at s shard) latest (Lock a coordinator reads writes) ≡ reply.Granted shown → HoldsShown (shard_after (shard_at s shard) latest (Lock a coordinator reads writes)) a reads writes shown
lock_shown c s f o shard latest a coordinator reads writes shown l e = granted_holds (shard_at s shard) latest a coordinator reads writes shown (o.orderly shard).reached e
    (λ h g. by_case h (holder_from (shard_at s shard) latest (Lock a coordinator reads writes) (o.orderly shard).reached a h g))
  where
    first : 1 ≤ shard
    first = line_first c l.txn (f.txn a.call l.txn l.of.under_way).lines shard l.line l.is_line

    by_line : (h : LockHolder) → HeldIs s shard a h → (h.reads ≡ reads) × (h.writes ≡ writes)
    by_line h d =
        let same : d.line ≡ l.line = one_line c l.txn (f.txn a.call l.txn l.of.under_way).lines shard d.line l.line (subst (λ (x : TxnSession). IsLineOf x shard d.line) (one_txn s a d.txn l.txn d.of l.of) d.is_line) l.is_line in
        (d.reads_are ∙ ap (λ (m : Line). m.reads) same ∙ sym l.reads_are, d.writes_are ∙ ap (λ (m : Line). m.writes) same ∙ sym l.writes_are)

    by_case : (h : LockHolder) → (holder_of (shard_at s shard).locks.holders a ≡ Some h) ⊎ (Lock a coordinator reads writes ≡ Lock a h.coordinator h.reads h.writes) → (h.reads ≡ reads) × (h.writes ≡ writes)
    by_case h (inl i) = by_line h (o.held shard a h first i)
    by_case h (inr i) = (same_reads a coordinator h.coordinator reads writes h.reads h.writes i, same_writes a coordinator h.coordinator reads writes h.reads h.writes i)

module _ (c : Config) (at : Reading) (s t : State) (b : Between c at s t) (j : AllJust s) (io : AllInOrder s) (o : AllOrderly c s) where
  -- each shard stays or serves
  each_goes : (n : ℕ) → ShardGoes s t at.latest n
  each_goes n = goes s t at.latest (event_does c at s t b.event) n

  orderly_at : (n : ℕ) → ShardGoes s t at.latest n → IsOrderly (shard_at t n)
  orderly_at n (stays e) = subst IsOrderly (sym e) (o.orderly n)
  orderly_at n (serves v) = subst IsOrderly (sym v.now) (orderly_kept (shard_at s n) at.latest v.request (o.orderly n) (served_order s t at.latest n io v))

  keys_at : (n : ℕ) (key : Key) → ShardGoes s t at.latest n → IsTrue (keeps_key (shard_at s n).store key) → IsTrue (keeps_key (shard_at t n).store key)
  keys_at n key (stays e) k = subst (λ (sh : ShardState). IsTrue (keeps_key sh.store key)) (sym e) k
  keys_at n key (serves v) k = subst (λ (sh : ShardState). IsTrue (keeps_key sh.store key)) (sym v.now) (keys_after (shard_at s n) at.latest v.request key ∙ k)

  held_at : (n : ℕ) (a : Attempt) (h : LockHolder) → 1 ≤ n → ShardGoes s t at.latest n → holder_of (shard_at t n).locks.holders a ≡ Some h → HeldIs s n a h
  held_at n a h first (stays e) g = o.held n a h first (ap (λ (sh : ShardState). holder_of sh.locks.holders a) (sym e) ∙ g)
  held_at n a h first (serves v) g = by_case (holder_from (shard_at s n) at.latest v.request (o.orderly n).reached a h (ap (λ (sh : ShardState). holder_of sh.locks.holders a) (sym v.now) ∙ g))
    where
      by_case : (holder_of (shard_at s n).locks.holders a ≡ Some h) ⊎ (v.request ≡ Lock a h.coordinator h.reads h.writes) → HeldIs s n a h
      by_case (inl e) = o.held n a h first e
      by_case (inr e) = held_by_lock c s b.framed n v.shard first v.place a h (asked_lock s j v.message v.shard v.request v.asked a h.coordinator h.reads h.writes e)

  prepared_at : (n : ℕ) (a : Attempt) (p : PreparedWriter) → 1 ≤ n → ShardGoes s t at.latest n → prepared_of (shard_at t n).prepared a ≡ Some p → PreparedIs s n a p
  prepared_at n a p first (stays e) g = o.prepared n a p first (ap (λ (sh : ShardState). prepared_of sh.prepared a) (sym e) ∙ g)
  prepared_at n a p first (serves v) g = by_case (prepare_from (shard_at s n) at.latest v.request (o.orderly n).reached p (prepared_itself (shard_after (shard_at s n) at.latest v.request).prepared a p there))
    where
      there : prepared_of (shard_after (shard_at s n) at.latest v.request).prepared a ≡ Some p
      there = ap (λ (sh : ShardState). prepared_of sh.prepared a) (sym v.now) ∙ g

      itself : p.attempt ≡ a
      itself = prepared_attempt (shard_after (shard_at s n) at.latest v.request).prepared a p there

      by_case : (prepared_of (shard_at s n).prepared p.attempt ≡ Some p) ⊎ IsPreparedBy (shard_at s n) at.latest v.request p → PreparedIs s n a p
      by_case (inl e) = o.prepared n a p first (ap (prepared_of (shard_at s n).prepared) (sym itself) ∙ e)
      by_case (inr e) = prepared_by_prepare c s b.framed n v.shard first v.place a e.least p e.above_least
          (asked_prepare s j v.message v.shard v.request v.asked a e.least p.earliest_end p.writes (e.asks ∙ ap (λ (z : Attempt). Prepare z e.least p.earliest_end p.writes) itself))

  -- who was granted its locks, from the state before
  shown_at : (n : ℕ) (a : Attempt) (reads writes : List Key) (shown : List (Key × Version)) → ShardGoes s t at.latest n
      → HoldsShown (shard_at s n) a reads writes shown ⊎ IsGone (shard_at s n) a → HoldsShown (shard_at t n) a reads writes shown ⊎ IsGone (shard_at t n) a
  shown_at n a reads writes shown (stays e) h = subst (λ (sh : ShardState). HoldsShown sh a reads writes shown ⊎ IsGone sh a) (sym e) h
  shown_at n a reads writes shown (serves v) (inl h) =
      subst (λ (sh : ShardState). HoldsShown sh a reads writes shown ⊎ IsGone sh a) (sym v.now)
      (shown_stay (shard_at s n) at.latest v.request (o.orderly n) (served_order s t at.latest n io v) a reads writes shown h)
  shown_at n a reads writes shown (serves v) (inr h) = inr (subst (λ (sh : ShardState). IsGone sh a) (sym v.now) (gone_stay (shard_at s n) at.latest v.request (o.orderly n).reached a h))

  -- the reply is of now
  granted_now : (v : Serves s t at.latest) (n : ℕ) (a : Attempt) (coordinator : ℕ) (reads writes : List Key) (shown : List (Key × Version)) → n ≡ v.shard → Lock a coordinator reads writes ≡ v.request
      → reply.Granted shown ≡ shard_reply (shard_at s v.shard) at.latest v.request → HoldsShown (shard_at t n) a reads writes shown
  granted_now v n a coordinator reads writes shown e f g =
      let l = asked_lock s j v.message v.shard v.request v.asked a coordinator reads writes (sym f) in
      let fit = (b.framed.txn a.call l.txn l.of.under_way).lines in
      let within : v.shard ≤ length s.shards = subst (λ (k : ℕ). v.shard ≤ k) (sym b.framed.shards) (line_last c l.txn fit v.shard l.line l.is_line) in
      let now = ap (shard_at t) e ∙ served_there s t at.latest v (line_first c l.txn fit v.shard l.line l.is_line) within ∙ ap (shard_after (shard_at s v.shard) at.latest) (sym f) in
      subst (λ (sh : ShardState). HoldsShown sh a reads writes shown) (sym now)
      (lock_shown c s b.framed o v.shard at.latest a coordinator reads writes shown l (ap (shard_reply (shard_at s v.shard) at.latest) f ∙ sym g))

  granted_served : (v : Serves s t at.latest) (n : ℕ) (a : Attempt) (coordinator : ℕ) (reads writes : List Key) (shown : List (Key × Version)) → ReplyComes s v.shard at.latest v.request n (Lock a coordinator reads writes) (reply.Granted shown)
      → HoldsShown (shard_at t n) a reads writes shown ⊎ IsGone (shard_at t n) a
  granted_served v n a coordinator reads writes shown (was x) = shown_at n a reads writes shown (each_goes n) (o.granted n a coordinator reads writes shown x)
  granted_served v n a coordinator reads writes shown (comes e f g) = inl (granted_now v n a coordinator reads writes shown e f g)

  granted_at : Quiet s t ⊎ Serves s t at.latest → (n : ℕ) (a : Attempt) (coordinator : ℕ) (reads writes : List Key) (shown : List (Key × Version)) → Replied t (Shard n) (Lock a coordinator reads writes) (reply.Granted shown)
      → HoldsShown (shard_at t n) a reads writes shown ⊎ IsGone (shard_at t n) a
  granted_at (inl h) n a coordinator reads writes shown x = shown_at n a reads writes shown (each_goes n) (o.granted n a coordinator reads writes shown (quiet_reply at s t b.known h n (Lock a coordinator reads writes) (reply.Granted shown) x))
  granted_at (inr v) n a coordinator reads writes shown x = granted_served v n a coordinator reads writes shown (served_reply at s t at.latest b.known v n (Lock a coordinator reads writes) (reply.Granted shown) x)

-- shards stay orderly through each event
pub orderly_keeps : (c : Config) (at : Reading) (s t : State) → Between c at s t → AllJust s → AllInOrder s → AllOrderly c s → AllOrderly c t
orderly_keeps c at s t b j io o = record {
  orderly = λ n. orderly_at c at s t b j io o n (each_goes c at s t b j io o n);
  keys = λ key k. keys_at c at s t b j io o (home_of c key.index) key (each_goes c at s t b j io o (home_of c key.index)) (o.keys key k);
  held = λ n a h first e. held_grows s t b.onward n a h (held_at c at s t b j io o n a h first (each_goes c at s t b j io o n) e);
  prepared = λ n a p first e. prepared_grows s t b.onward n a p (prepared_at c at s t b j io o n a p first (each_goes c at s t b j io o n) e);
  granted = λ n a coordinator reads writes shown x. granted_at c at s t b j io o (event_does c at s t b.event) n a coordinator reads writes shown x;
}
