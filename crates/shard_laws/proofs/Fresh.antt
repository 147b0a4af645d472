-- What an answered snapshot passes by, shows and closes.
use Rattle.std.proofs.Common.{◌≡◌, ◌⊎◌, inl, inr, ℕ, ◌<◌, ◌≤◌, Bool, true, false, List, [], ◌∷◌, Some, refl, sym, ap, ◌∙◌, subst, arith}
use Rattle.std.specs.Prelude.{IsTrue}
use Rattle.std.proofs.lemmas.Bool.{true≢false}
use Rattle.rss_names.specs.declared.service.Key.{Key}
use Rattle.rss_wire.specs.declared.messages.Skipped.{Skipped}
use Rattle.rss_wire.specs.declared.messages.Request.TheVariants.{Snapshot}
use Rattle.rss_wire.specs.declared.messages.Reply.TheVariants as reply
use Rattle.rss_wire.specs.declared.messages.Version.{Version}
use Rattle.rss_tables.specs.Lines.{version_in}
use Rattle.rss_tables.specs.Locks.{has_key}
use Rattle.rss_tables.specs.Prepared.{PreparedWriter, prepared_of}
use Rattle.rss_tables.specs.Versions.{versions_of, versions_at, version_at, opening_version}
use Rattle.rss_tables.specs.ShardRow.{Shard, shard_after, shard_reply}
use Rattle.shard_laws.specs.Served.{IsReached}
use Rattle.shard_laws.specs.Closed.{EachOf, writes_key}
use Rattle.shard_laws.specs.Snapshots.{IsAskedAbout, IsRightlySkipped, IsBefore, ClosesAt}
use Rattle.shard_laws.proofs.Rising.{each_more}
use Rattle.shard_laws.proofs.Closes.{rising}
use Rattle.shard_laws.proofs.Answered.{answered, closes, writes_among}
use Rattle.shard_laws.specs.Named.{IsNamed}
use Rattle.shard_laws.specs.Orderly.{IsOrderly}
use Rattle.shard_laws.proofs.Newest.{shows_earlier, shown_is}

-- a writer of an asked key that may stand at the read time cannot end before it
pub answer_skips : (sh : Shard) (latest read_time least : ℕ) (keys : List Key) (versions : List (Key × Version)) (skipped : List Skipped) → IsReached sh → shard_reply sh latest (Snapshot read_time least keys true) ≡ reply.Values versions skipped → (key : Key) → IsTrue (has_key keys key) → (p : PreparedWriter) → prepared_of sh.prepared p.attempt ≡ Some p → IsTrue (writes_key p key) → p.prepare_time ≤ read_time → read_time < p.earliest_end
answer_skips sh latest read_time least keys versions skipped x e key k p f w l = ((answered sh x latest read_time least keys true versions skipped e).each p record { there = f; writes = writes_among keys key k p.writes w; upto = l }).unended

-- what an answer shows is not before a version that is closed up to the read time
pub answer_shows : (sh : Shard) (read_time : ℕ) → IsReached sh → (key : Key) (t : ℕ) (w : Version) → ClosesAt sh key t w → w.time ≡ t → t ≤ read_time → t ≤ (version_at sh.store key read_time).time
answer_shows sh read_time x key t w c e l = by_case (shows_earlier t read_time l (versions_of sh.store key) opening_version (rising sh x key))
  where
    by_case : (t < (version_at sh.store key read_time).time) ⊎ (version_at sh.store key t ≡ version_at sh.store key read_time) → t ≤ (version_at sh.store key read_time).time
    by_case (inl a) = omega (arith, a)
    by_case (inr s) =
        let i : w.time ≡ (version_at sh.store key read_time).time = ap (λ (u : Version). u.time) (sym c.shows ∙ s) in
        omega (arith, i, e)

-- an answer shows each key's version at the read time
pub answer_versions : (sh : Shard) (latest read_time least : ℕ) (keys : List Key) (skip : Bool) (versions : List (Key × Version)) (skipped : List Skipped) → IsReached sh → shard_reply sh latest (Snapshot read_time least keys skip) ≡ reply.Values versions skipped → versions ≡ versions_at sh.store keys read_time
answer_versions sh latest read_time least keys skip versions skipped x e = (answered sh x latest read_time least keys skip versions skipped e).values

-- what it shows for a key
pub answer_version : (sh : Shard) (latest read_time least : ℕ) (keys : List Key) (skip : Bool) (versions : List (Key × Version)) (skipped : List Skipped) → IsReached sh → shard_reply sh latest (Snapshot read_time least keys skip) ≡ reply.Values versions skipped → (key : Key) (v : Version) → version_in versions key ≡ Some v → v ≡ version_at sh.store key read_time
answer_version sh latest read_time least keys skip versions skipped x e key v g = shown_is (λ (k : Key). version_at sh.store k read_time) keys key v (ap (λ (list : List (Key × Version)). version_in list key) (sym (answer_versions sh latest read_time least keys skip versions skipped x e)) ∙ g)

-- an answer closes what it shows, before all that it passed by
pub answer_closes : (sh : Shard) (latest read_time least : ℕ) (keys : List Key) (skip : Bool) (versions : List (Key × Version)) (skipped : List Skipped) → IsOrderly sh → shard_reply sh latest (Snapshot read_time least keys skip) ≡ reply.Values versions skipped → (key : Key) (v : Version) (time : ℕ) → IsTrue (has_key keys key) → version_in versions key ≡ Some v → time ≤ read_time → EachOf (IsBefore time) skipped → v.time ≤ time → ClosesAt (shard_after sh latest (Snapshot read_time least keys skip)) key time v
answer_closes sh latest read_time least keys skip versions skipped o e key v time k g l b m =
    let same = answer_version sh latest read_time least keys skip versions skipped o.reached e key v g in
    subst (ClosesAt (shard_after sh latest (Snapshot read_time least keys skip)) key time) (sym same)
    (closes sh o.reached latest read_time least keys skip versions skipped e key time k l b (subst (λ (u : Version). u.time ≤ time) same m))

-- a snapshot that may pass nobody by passes nobody by
pub answer_waits : (sh : Shard) (latest read_time least : ℕ) (keys : List Key) (versions : List (Key × Version)) (skipped : List Skipped) → IsReached sh → shard_reply sh latest (Snapshot read_time least keys false) ≡ reply.Values versions skipped → skipped ≡ []
answer_waits sh latest read_time least keys versions skipped x e =
    let a = answered sh x latest read_time least keys false versions skipped e in
    nobody skipped a.rightly (λ p q. (a.each p q).may_skip)
  where
    nobody : (names : List Skipped) → EachOf (IsRightlySkipped sh keys read_time least) names → ((p : PreparedWriter) → IsAskedAbout sh keys read_time p → false ≡ true) → names ≡ []
    nobody [] h f = refl
    nobody (s ∷ names) h f = absurd (true≢false (sym (f h.0.entry h.0.asked)))

-- who is named is prepared, and its call cannot end before the read time
pub answer_names : (sh : Shard) (latest read_time least : ℕ) (keys : List Key) (skip : Bool) (versions : List (Key × Version)) (skipped : List Skipped) → IsReached sh → shard_reply sh latest (Snapshot read_time least keys skip) ≡ reply.Values versions skipped → EachOf (IsNamed sh read_time) skipped
answer_names sh latest read_time least keys skip versions skipped x e = each_more (IsRightlySkipped sh keys read_time least) (IsNamed sh read_time) one skipped (answered sh x latest read_time least keys skip versions skipped e).rightly
  where
    one : (s : Skipped) → IsRightlySkipped sh keys read_time least s → IsNamed sh read_time s
    one s h = record {
      entry = h.entry;
      there = ap (λ (n : Skipped). prepared_of sh.prepared n.attempt) h.named ∙ h.asked.there;
      at = ap (λ (n : Skipped). n.prepare_time) h.named;
      unended = h.unended;
    }
