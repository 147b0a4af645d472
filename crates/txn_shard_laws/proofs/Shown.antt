-- One shard: what an answered snapshot leaves to be seen later, and that each request keeps it so.
use Rattle.std.proofs.Common.{◌≡◌, ◌⊎◌, inl, inr, ℕ, ◌<◌, ◌≤◌, Bool, true, false, List, [], ◌∷◌, Some, refl, sym, subst, arith}
use Rattle.std.specs.Prelude.{IsTrue, nat_le, if◌then◌else◌}
use Rattle.std.proofs.lemmas.Bool.{cases_lt, leb-false}
use Rattle.rss_names.specs.declared.attempt.Attempt.{Attempt}
use Rattle.rss_names.specs.declared.service.Key.{Key}
use Rattle.rss_wire.specs.declared.messages.Request.{Request}
use Rattle.rss_wire.specs.declared.messages.Request.TheVariants.{Prepare, Commit, Snapshot}
use Rattle.rss_wire.specs.declared.messages.Reply.TheVariants as reply
use Rattle.rss_wire.specs.declared.messages.Skipped.{Skipped}
use Rattle.rss_wire.specs.declared.messages.Version.{Version}
use Rattle.rss_tables.specs.Lines.{version_in}
use Rattle.rss_tables.specs.Locks.{has_key}
use Rattle.rss_tables.specs.Prepared.{PreparedWriter, prepared_of}
use Rattle.rss_tables.specs.ShardRow.{Shard, shard_after, shard_reply}
use Rattle.rss_tables.specs.Versions.{versions_of, last_upto, opening_version}
use Rattle.rss_tables.proofs.ShardLaws.{floor-rises}
use Rattle.rss_tables.proofs.TableLaws.{upto-time}
use Rattle.shard_laws.specs.Changes.{IsPreparedBy}
use Rattle.shard_laws.specs.Closed.{EachOf, AreRising, writes_key}
use Rattle.shard_laws.specs.Committed.{version_by}
use Rattle.shard_laws.specs.Served.{IsReached}
use Rattle.shard_laws.specs.Snapshots.{IsBefore}
use Rattle.shard_laws.proofs.Closes.{rising}
use Rattle.shard_laws.proofs.Laters.{answered_floor}
use Rattle.shard_laws.specs.Orderly.{IsOrderly, IsInOrder}
use Rattle.shard_laws.proofs.Fresh.{answer_skips, answer_version, answer_waits, answer_closes}
use Rattle.shard_laws.proofs.Prepares.{prepare_from}
use Rattle.shard_laws.proofs.Wrote.{some_value, versions_from}
use Rattle.shard_laws.proofs.Answered.{last_not_older}

-- a prepared writer of a key stands above a read time, or its call cannot end before that
abbrev pub IsLate : ℕ → PreparedWriter → Type 0
IsLate read_time p = (read_time < p.prepare_time) ⊎ (read_time < p.earliest_end)

-- a shard was read or written at a read time or later, each prepared writer of a key is late for it, and the
-- versions of the key have a property
pub record IsShownRightly (sh : Shard) (read_time : ℕ) (key : Key) (P : Version → Type 0) : Type 0 where
  pub floor : read_time ≤ sh.floor
  pub entries : (p : PreparedWriter) → prepared_of sh.prepared p.attempt ≡ Some p → IsTrue (writes_key p key) → IsLate read_time p
  pub versions : EachOf P (versions_of sh.store key)

-- prepared writers stay late, for a new one comes above the floor
entries_stay : (sh : Shard) (latest : ℕ) (q : Request) → IsReached sh → (read_time : ℕ) (key : Key) → read_time ≤ sh.floor → ((p : PreparedWriter) → prepared_of sh.prepared p.attempt ≡ Some p → IsTrue (writes_key p key) → IsLate read_time p) → (p : PreparedWriter) → prepared_of (shard_after sh latest q).prepared p.attempt ≡ Some p → IsTrue (writes_key p key) → IsLate read_time p
entries_stay sh latest q x read_time key l h p e w = by_case (prepare_from sh latest q x p e)
  where
    by_case : (prepared_of sh.prepared p.attempt ≡ Some p) ⊎ IsPreparedBy sh latest q p → IsLate read_time p
    by_case (inl f) = h p f w
    by_case (inr i) = let a = i.above_floor in inl (omega (arith, a, l))

-- what a late writer commits is above the read time, or the writer could not end before that
pub record CommitsLate (read_time : ℕ) (P : Version → Type 0) (p : PreparedWriter) (time value : ℕ) : Type 0 where
  pub above : read_time < time → P (version_by p time value)
  pub unended : read_time < p.earliest_end → P (version_by p time value)

-- each request that is in order keeps it so, where late writers commit what has the property
pub shown_stays : (sh : Shard) (latest : ℕ) (q : Request) → IsOrderly sh → IsInOrder sh q → (read_time : ℕ) (key : Key) (P : Version → Type 0) → IsShownRightly sh read_time key P → ((p : PreparedWriter) (time value : ℕ) → q ≡ Commit p.attempt time → prepared_of sh.prepared p.attempt ≡ Some p → CommitsLate read_time P p time value) → IsShownRightly (shard_after sh latest q) read_time key P
shown_stays sh latest q o in_order read_time key P h f = record {
  floor = (let a = floor-rises sh latest q in let b = h.floor in omega (arith, a, b));
  entries = entries_stay sh latest q o.reached read_time key h.floor h.entries;
  versions = versions_from sh latest q o P key h.versions (λ p time value e there first. by_late p time value e there (h.entries p there (some_value p.writes key value first)));
}
  where
    by_late : (p : PreparedWriter) (time value : ℕ) → q ≡ Commit p.attempt time → prepared_of sh.prepared p.attempt ≡ Some p → IsLate read_time p → P (version_by p time value)
    by_late p time value e there (inl a) =
        let i : IsInOrder sh (Commit p.attempt time) = subst (IsInOrder sh) e in_order in
        let l = i.timely p there in
        (f p time value e there).above (omega (arith, a, l))
    by_late p time value e there (inr a) = (f p time value e there).unended a

-- a version stands at or before the one that was shown, or above the read time
abbrev pub IsSeen : ℕ → Version → Version → Type 0
IsSeen read_time v u = (u.time ≤ v.time) ⊎ (read_time < u.time)

-- of versions that rise, each is at or before the one that shows, or above the time
each_seen : (time : ℕ) (vs : List Version) (found : Version) → AreRising vs → EachOf (IsSeen time (last_upto found time vs)) vs
each_seen time [] found r = tt
each_seen time (v ∷ vs) found r = by_test (nat_le v.time time) refl (each_seen time vs v r.1) (each_seen time vs found r.1)
  where
    by_test : (b : Bool) → nat_le v.time time ≡ b → EachOf (IsSeen time (last_upto v time vs)) vs → EachOf (IsSeen time (last_upto found time vs)) vs → EachOf (IsSeen time (last_upto (if b then v else found) time vs)) (v ∷ vs)
    by_test true e ih jh = (inl (last_not_older v.time time vs v r.0 (omega arith)), ih)
    by_test false e ih jh = (inr (leb-false v.time time e), jh)

-- who asks for a snapshot neither prepares nor commits
not_prepare : (read_time l : ℕ) (keys : List Key) (skip : Bool) (a : Attempt) (least earliest_end : ℕ) (writes : List (Key × ℕ)) → Snapshot read_time l keys skip ≡ Prepare a least earliest_end writes → ⊥
not_prepare read_time l keys skip a least earliest_end writes e = cc

not_commit : (read_time l : ℕ) (keys : List Key) (skip : Bool) (a : Attempt) (time : ℕ) → Snapshot read_time l keys skip ≡ Commit a time → ⊥
not_commit read_time l keys skip a time e = cc

-- an answer leaves late writers alone
answer_late : (sh : Shard) (latest read_time least : ℕ) (keys : List Key) (skip : Bool) (versions : List (Key × Version)) (skipped : List Skipped) → IsOrderly sh → shard_reply sh latest (Snapshot read_time least keys skip) ≡ reply.Values versions skipped → (key : Key) (v : Version) → IsTrue (has_key keys key) → version_in versions key ≡ Some v → (p : PreparedWriter) → prepared_of (shard_after sh latest (Snapshot read_time least keys skip)).prepared p.attempt ≡ Some p → IsTrue (writes_key p key) → IsLate read_time p
answer_late sh latest read_time least keys true versions skipped o e key v k g p f w = by_case (prepare_from sh latest (Snapshot read_time least keys true) o.reached p f) (cases_lt read_time p.prepare_time)
  where
    by_case : (prepared_of sh.prepared p.attempt ≡ Some p) ⊎ IsPreparedBy sh latest (Snapshot read_time least keys true) p → (read_time < p.prepare_time) ⊎ (p.prepare_time ≤ read_time) → IsLate read_time p
    by_case (inl there) (inl a) = inl a
    by_case (inl there) (inr a) = inr (answer_skips sh latest read_time least keys versions skipped o.reached e key k p there w a)
    by_case (inr i) l = absurd (not_prepare read_time least keys true p.attempt i.least p.earliest_end p.writes i.asks)
answer_late sh latest read_time least keys false versions skipped o e key v k g p f w =
    let none = answer_waits sh latest read_time least keys versions skipped o.reached e in
    let upto : v.time ≤ read_time = subst (λ (u : Version). u.time ≤ read_time) (sym (answer_version sh latest read_time least keys false versions skipped o.reached e key v g)) (upto-time (versions_of sh.store key) opening_version read_time (omega arith)) in
    inl ((answer_closes sh latest read_time least keys false versions skipped o e key v read_time k g (omega arith) (subst (EachOf (IsBefore read_time)) (sym none) tt) upto).closed.writers p f w)

-- an answer shows rightly
pub answer_shown : (sh : Shard) (latest read_time least : ℕ) (keys : List Key) (skip : Bool) (versions : List (Key × Version)) (skipped : List Skipped) → IsOrderly sh → shard_reply sh latest (Snapshot read_time least keys skip) ≡ reply.Values versions skipped → (key : Key) (v : Version) → IsTrue (has_key keys key) → version_in versions key ≡ Some v → IsShownRightly (shard_after sh latest (Snapshot read_time least keys skip)) read_time key (IsSeen read_time v)
answer_shown sh latest read_time least keys skip versions skipped o e key v k g = record {
  floor = answered_floor sh latest read_time least keys skip versions skipped e;
  entries = answer_late sh latest read_time least keys skip versions skipped o e key v k g;
  versions = versions_from sh latest (Snapshot read_time least keys skip) o (IsSeen read_time v) key seen (λ p time value i there first. absurd (not_commit read_time least keys skip p.attempt time i));
}
  where
    seen : EachOf (IsSeen read_time v) (versions_of sh.store key)
    seen = subst (λ (u : Version). EachOf (IsSeen read_time u) (versions_of sh.store key)) (sym (answer_version sh latest read_time least keys skip versions skipped o.reached e key v g)) (each_seen read_time (versions_of sh.store key) opening_version (rising sh o.reached key))
