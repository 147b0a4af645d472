-- What the replies to snapshots say, and that an answer closes what it shows.
use Rattle.std.proofs.Common.{◌≡◌, ◌⊎◌, inl, inr, ℕ, ◌<◌, ◌≤◌, max, Bool, true, false, not, ◌&&◌, ◌||◌, List, [], ◌∷◌, length, map, Option, Some, None, refl, sym, ap, ◌∙◌, subst, arith}
use Rattle.std.specs.Prelude.{◌==◌, if◌then◌else◌, nat_le, IsTrue}
use Rattle.std.specs.List.{list_any, filter}
use Rattle.std.proofs.lemmas.Bool.{cond_both, true≢false, or_left, or_right, or_cases, or_parts, and_parts, and_from, and_cases, leb-true, leb-false, le-leb, eqb-true, eq-eqb, eqb-false, cases_lt, not-true, not-false, not_from_false, false_from_ne_true}
use Rattle.std.proofs.lemmas.List.{length-map}
use Rattle.rss_names.specs.declared.attempt.Attempt.{Attempt}
use Rattle.rss_names.specs.declared.service.Key.{Key}
use Rattle.rss_names.specs.Services.{same_key}
use Rattle.rss_names.proofs.Services.{same_key-Decides}
use Rattle.rss_wire.specs.declared.messages.Holder.{Holder}
use Rattle.rss_wire.specs.declared.messages.Skipped.{Skipped}
use Rattle.rss_wire.specs.declared.messages.Request.TheVariants.{Snapshot}
use Rattle.rss_wire.specs.declared.messages.Reply.{Reply}
use Rattle.rss_wire.specs.declared.messages.Reply.TheVariants as reply
use Rattle.rss_wire.specs.declared.messages.Version.{Version}
use Rattle.rss_tables.specs.Attempts.{same_attempt}
use Rattle.rss_tables.specs.Locks.{has_key}
use Rattle.rss_tables.specs.Prepared.{PreparedWriter, prepared_of, writes_any, is_asked_about, must_wait_for, blocking, passed_by, named_blocking, named_skipped}
use Rattle.rss_tables.specs.Versions.{KeyVersions, versions_of, versions_at, version_at, last_upto, opening_version}
use Rattle.rss_tables.specs.ShardRow.{Shard, is_clear, shard_after, shard_reply}
use Rattle.shard_laws.specs.Served.{IsReached}
use Rattle.shard_laws.specs.Entries.{entry_of, AreApart, prepared_by}
use Rattle.shard_laws.specs.Closed.{EachOf, IsAbove, AreRising, writes_key}
use Rattle.shard_laws.specs.Snapshots.{names, IsPassedBy, IsAskedAbout, IsRightlySkipped, IsAnswered, IsBlocking, IsBlocked, IsBefore, ClosesAt}
use Rattle.shard_laws.proofs.Entries.{same_is, same_itself, none_pass}
use Rattle.shard_laws.proofs.Lists.{prepared_is}
use Rattle.shard_laws.proofs.Rising.{each_more}
use Rattle.shard_laws.proofs.Closes.{rising}
use Rattle.shard_laws.proofs.Laters.{prepared_once, answered_floor}

-- each entry is the one that is found for its attempt
pub each_entry : {E : Type 0} (at : E → Attempt) (es : List E) → AreApart at es → EachOf (λ (e : E). entry_of at es (at e) ≡ Some e) es
each_entry at [] h = tt
each_entry {E} at (d ∷ es) h = (first, each_more (λ (e : E). entry_of at es (at e) ≡ Some e) (λ (e : E). entry_of at (d ∷ es) (at e) ≡ Some e) one es (each_entry at es h.1))
  where
    first : entry_of at (d ∷ es) (at d) ≡ Some d
    first = rw (same_itself (at d)) refl

    one : (e : E) → entry_of at es (at e) ≡ Some e → entry_of at (d ∷ es) (at e) ≡ Some e
    one e f =
        let other : same_attempt (at e) (at d) ≡ false = false_from_ne_true (same_attempt (at e) (at d))
        (λ i. let x : ◌≡◌ {A = Option E} None (Some e) = sym h.0 ∙ ap (entry_of at es) (sym (same_is (at e) (at d) i)) ∙ f in absurd cc) in
        rw other f

pub each_filter : {X : Type 0} (P : X → Type 0) (test : X → Bool) (xs : List X) → EachOf P xs → EachOf (λ (x : X). P x × (test x ≡ true)) (filter test xs)
each_filter P test [] h = tt
each_filter {X} P test (x ∷ xs) h =
    let rest = each_filter P test xs h.1 in
    cond_both (test x) (x ∷ filter test xs) (filter test xs) (EachOf (λ (y : X). P y × (test y ≡ true))) (λ e. ((h.0, e), rest)) (λ e. rest)

pub each_map : {X Y : Type 0} (P : Y → Type 0) (f : X → Y) (xs : List X) → EachOf (λ (x : X). P (f x)) xs → EachOf P (map f xs)
each_map P f [] h = tt
each_map P f (x ∷ xs) h = (h.0, each_map P f xs h.1)

-- one that is found and passes a test is named among those that pass
named_there : (test : PreparedWriter → Bool) (ps : List PreparedWriter) (p : PreparedWriter) → entry_of prepared_by ps p.attempt ≡ Some p → test p ≡ true → names (named_skipped (filter test ps)) p ≡ true
named_there test [] p e t = absurd (let x : ◌≡◌ {A = Option PreparedWriter} None (Some p) = e in cc)
named_there test (d ∷ ps) p e t = by_tests (same_attempt p.attempt d.attempt) refl (test d) refl (named_there test ps p)
  where
    itself : (same_attempt p.attempt p.attempt && p.prepare_time == p.prepare_time) ≡ true
    itself = and_from (same_attempt p.attempt p.attempt) (p.prepare_time == p.prepare_time) (same_itself p.attempt) (eq-eqb p.prepare_time p.prepare_time refl)

    by_tests : (b : Bool) → same_attempt p.attempt d.attempt ≡ b → (c : Bool) → test d ≡ c → (entry_of prepared_by ps p.attempt ≡ Some p → test p ≡ true → names (named_skipped (filter test ps)) p ≡ true) → names (named_skipped (filter test (d ∷ ps))) p ≡ true
    by_tests true f c g ih =
        let x : ◌≡◌ {A = Option PreparedWriter} (Some d) (Some p) = rw f at e in
        let y : d ≡ p = cc in
        let u : test d ≡ true = ap test y ∙ t in
        let there : (same_attempt p.attempt d.attempt && d.prepare_time == p.prepare_time) ≡ true = ap (λ (z : PreparedWriter). same_attempt p.attempt z.attempt && z.prepare_time == p.prepare_time) y ∙ itself in
        rw u (or_left (same_attempt p.attempt d.attempt && d.prepare_time == p.prepare_time) (names (named_skipped (filter test ps)) p) there)
    by_tests false f true g ih = rw g (or_right (same_attempt p.attempt d.attempt && d.prepare_time == p.prepare_time) (names (named_skipped (filter test ps)) p) (ih (rw f at e) t))
    by_tests false f false g ih = rw g (ih (rw f at e) t)

-- what a reader need not wait for
record NeedNot (read_time least : ℕ) (skip : Bool) (p : PreparedWriter) : Type 0 where
  may_skip : skip ≡ true
  unseen : least < p.prepare_time
  unended : read_time < p.earliest_end

need_not : (read_time least : ℕ) (skip : Bool) (p : PreparedWriter) → must_wait_for read_time least skip p ≡ false → NeedNot read_time least skip p
need_not read_time least skip p e =
    let a = or_parts (not skip || nat_le p.prepare_time least) (nat_le p.earliest_end read_time) e in
    let b = or_parts (not skip) (nat_le p.prepare_time least) a.0 in
    record { may_skip = not-false skip b.0; unseen = leb-false p.prepare_time least b.1; unended = leb-false p.earliest_end read_time a.1 }

-- the tests of the table
abbrev in_way : List Key → ℕ → ℕ → Bool → PreparedWriter → Bool
in_way keys read_time least skip p = is_asked_about keys read_time p && must_wait_for read_time least skip p

abbrev passed : List Key → ℕ → ℕ → Bool → PreparedWriter → Bool
passed keys read_time least skip p = is_asked_about keys read_time p && not (must_wait_for read_time least skip p)

asked_test : (sh : Shard) (keys : List Key) (read_time : ℕ) (p : PreparedWriter) → IsAskedAbout sh keys read_time p → is_asked_about keys read_time p ≡ true
asked_test sh keys read_time p a = and_from (writes_any keys p) (nat_le p.prepare_time read_time) a.writes (le-leb p.prepare_time read_time a.upto)

-- the writers that a snapshot asks about, by the table's test
test_asked : (sh : Shard) (keys : List Key) (read_time : ℕ) (p : PreparedWriter) → entry_of prepared_by sh.prepared p.attempt ≡ Some p → is_asked_about keys read_time p ≡ true → IsAskedAbout sh keys read_time p
test_asked sh keys read_time p e t =
    let q = and_parts (writes_any keys p) (nat_le p.prepare_time read_time) t in
    record { there = prepared_is sh.prepared p.attempt ∙ e; writes = q.0; upto = leb-true p.prepare_time read_time q.1 }

clear_each : (sh : Shard) (read_time least : ℕ) (keys : List Key) (skip : Bool) → is_clear sh keys read_time least skip ≡ true → (p : PreparedWriter) → IsAskedAbout sh keys read_time p → IsPassedBy read_time least skip (named_skipped (passed_by sh.prepared keys read_time least skip)) p
clear_each sh read_time least keys skip c p a =
    let e : entry_of prepared_by sh.prepared p.attempt ≡ Some p = sym (prepared_is sh.prepared p.attempt) ∙ a.there in
    let t = asked_test sh keys read_time p a in
    let n = none_pass prepared_by (in_way keys read_time least skip) sh.prepared p.attempt p c e in
    let w : must_wait_for read_time least skip p ≡ false = by_cases (and_cases (is_asked_about keys read_time p) (must_wait_for read_time least skip p) n) t in
    let q = need_not read_time least skip p w in
    record { may_skip = q.may_skip; unseen = q.unseen; unended = q.unended; named = named_there (passed keys read_time least skip) sh.prepared p e (and_from (is_asked_about keys read_time p) (not (must_wait_for read_time least skip p)) t (not_from_false (must_wait_for read_time least skip p) w)) }
  where
    by_cases : (is_asked_about keys read_time p ≡ false) ⊎ (must_wait_for read_time least skip p ≡ false) → is_asked_about keys read_time p ≡ true → must_wait_for read_time least skip p ≡ false
    by_cases (inl f) t = absurd (true≢false (sym t ∙ f))
    by_cases (inr f) t = f

rightly_each : (sh : Shard) → IsReached sh → (read_time least : ℕ) (keys : List Key) (skip : Bool) → EachOf (IsRightlySkipped sh keys read_time least) (named_skipped (passed_by sh.prepared keys read_time least skip))
rightly_each sh x read_time least keys skip =
    each_map (IsRightlySkipped sh keys read_time least) (λ (p : PreparedWriter). record { attempt = p.attempt; coordinator = p.coordinator; prepare_time = p.prepare_time }) (passed_by sh.prepared keys read_time least skip)
    (each_more (λ (p : PreparedWriter). (entry_of prepared_by sh.prepared p.attempt ≡ Some p) × (passed keys read_time least skip p ≡ true)) (λ (p : PreparedWriter). IsRightlySkipped sh keys read_time least record { attempt = p.attempt; coordinator = p.coordinator; prepare_time = p.prepare_time }) one
    (filter (passed keys read_time least skip) sh.prepared)
    (each_filter (λ (p : PreparedWriter). entry_of prepared_by sh.prepared p.attempt ≡ Some p) (passed keys read_time least skip) sh.prepared (each_entry prepared_by sh.prepared (prepared_once sh x))))
  where
    one : (p : PreparedWriter) → (entry_of prepared_by sh.prepared p.attempt ≡ Some p) × (passed keys read_time least skip p ≡ true) → IsRightlySkipped sh keys read_time least record { attempt = p.attempt; coordinator = p.coordinator; prepare_time = p.prepare_time }
    one p h =
        let q = and_parts (is_asked_about keys read_time p) (not (must_wait_for read_time least skip p)) h.1 in
        let n = need_not read_time least skip p (not-true (must_wait_for read_time least skip p) q.1) in
        record { entry = p; named = refl; asked = test_asked sh keys read_time p h.0 q.0; unseen = n.unseen; unended = n.unended }

blocking_each : (sh : Shard) → IsReached sh → (read_time least : ℕ) (keys : List Key) (skip : Bool) → EachOf (IsBlocking sh keys read_time) (named_blocking (blocking sh.prepared keys read_time least skip))
blocking_each sh x read_time least keys skip =
    each_map (IsBlocking sh keys read_time) (λ (p : PreparedWriter). record { attempt = p.attempt; coordinator = p.coordinator }) (blocking sh.prepared keys read_time least skip)
    (each_more (λ (p : PreparedWriter). (entry_of prepared_by sh.prepared p.attempt ≡ Some p) × (in_way keys read_time least skip p ≡ true)) (λ (p : PreparedWriter). IsBlocking sh keys read_time record { attempt = p.attempt; coordinator = p.coordinator }) one
    (filter (in_way keys read_time least skip) sh.prepared)
    (each_filter (λ (p : PreparedWriter). entry_of prepared_by sh.prepared p.attempt ≡ Some p) (in_way keys read_time least skip) sh.prepared (each_entry prepared_by sh.prepared (prepared_once sh x))))
  where
    one : (p : PreparedWriter) → (entry_of prepared_by sh.prepared p.attempt ≡ Some p) × (in_way keys read_time least skip p ≡ true) → IsBlocking sh keys read_time record { attempt = p.attempt; coordinator = p.coordinator }
    one p h =
        let q = and_parts (is_asked_about keys read_time p) (must_wait_for read_time least skip p) h.1 in
        record { entry = p; named = refl; asked = test_asked sh keys read_time p h.0 q.0 }

-- the reply to a snapshot, by whether nothing blocks it
record Replied (sh : Shard) (read_time least : ℕ) (keys : List Key) (skip : Bool) (versions : List (Key × Version)) (skipped : List Skipped) : Type 0 where
  clear : is_clear sh keys read_time least skip ≡ true
  values : versions ≡ versions_at sh.store keys read_time
  passed_by_them : skipped ≡ named_skipped (passed_by sh.prepared keys read_time least skip)

replied : (sh : Shard) (latest read_time least : ℕ) (keys : List Key) (skip : Bool) (versions : List (Key × Version)) (skipped : List Skipped) → shard_reply sh latest (Snapshot read_time least keys skip) ≡ reply.Values versions skipped → Replied sh read_time least keys skip versions skipped
unfolding shard_reply
replied sh latest read_time least keys skip versions skipped e = by_test (is_clear sh keys read_time least skip) refl
  where
    by_test : (b : Bool) → is_clear sh keys read_time least skip ≡ b → Replied sh read_time least keys skip versions skipped
    by_test true f =
        let x : ◌≡◌ {A = Reply} (reply.Values (versions_at sh.store keys read_time) (named_skipped (passed_by sh.prepared keys read_time least skip))) (reply.Values versions skipped) = rw f at e in
        record { clear = f; values = cc; passed_by_them = cc }
    by_test false f = absurd (let x : ◌≡◌ {A = Reply} (reply.Blocked (named_blocking (blocking sh.prepared keys read_time least skip))) (reply.Values versions skipped) = rw f at e in cc)

pub answered : (sh : Shard) → IsReached sh → (latest read_time least : ℕ) (keys : List Key) (skip : Bool) (versions : List (Key × Version)) (skipped : List Skipped) → shard_reply sh latest (Snapshot read_time least keys skip) ≡ reply.Values versions skipped → IsAnswered sh read_time least keys skip versions skipped
answered sh x latest read_time least keys skip versions skipped e =
    let r = replied sh latest read_time least keys skip versions skipped e in
    record {
      values = r.values;
      each = λ p a. subst (λ (l : List Skipped). IsPassedBy read_time least skip l p) (sym r.passed_by_them) (clear_each sh read_time least keys skip r.clear p a);
      rightly = subst (EachOf (IsRightlySkipped sh keys read_time least)) (sym r.passed_by_them) (rightly_each sh x read_time least keys skip);
    }

pub blocked : (sh : Shard) → IsReached sh → (latest read_time least : ℕ) (keys : List Key) (skip : Bool) (holders : List Holder) → shard_reply sh latest (Snapshot read_time least keys skip) ≡ reply.Blocked holders → IsBlocked sh keys read_time holders
unfolding shard_reply
blocked sh x latest read_time least keys skip holders e = by_test (is_clear sh keys read_time least skip) refl
  where
    by_test : (b : Bool) → is_clear sh keys read_time least skip ≡ b → IsBlocked sh keys read_time holders
    by_test true f = absurd (let y : ◌≡◌ {A = Reply} (reply.Values (versions_at sh.store keys read_time) (named_skipped (passed_by sh.prepared keys read_time least skip))) (reply.Blocked holders) = rw f at e in cc)
    by_test false f =
        let y : ◌≡◌ {A = Reply} (reply.Blocked (named_blocking (blocking sh.prepared keys read_time least skip))) (reply.Blocked holders) = rw f at e in
        let same : named_blocking (blocking sh.prepared keys read_time least skip) ≡ holders = cc in
        let n = eqb-false (length (blocking sh.prepared keys read_time least skip)) 0 f in
        let m : length (named_blocking (blocking sh.prepared keys read_time least skip)) ≡ length (blocking sh.prepared keys read_time least skip) = length-map (blocking sh.prepared keys read_time least skip) _ in
        record {
          some = subst (λ (l : List Holder). 0 < length l) same (grind (arith, n, m));
          each = subst (EachOf (IsBlocking sh keys read_time)) same (blocking_each sh x read_time least keys skip);
        }

-- who writes a key writes one of the keys that it is among
pub writes_among : (keys : List Key) (key : Key) → has_key keys key ≡ true → (writes : List (Key × ℕ)) → list_any (λ (w : Key × ℕ). has_key (key ∷ []) w.0) writes ≡ true → list_any (λ (w : Key × ℕ). has_key keys w.0) writes ≡ true
writes_among keys key h [] e = e
writes_among keys key h (w ∷ ws) e = by_first (or_cases (has_key (key ∷ []) w.0) (list_any (λ (u : Key × ℕ). has_key (key ∷ []) u.0) ws) e) (writes_among keys key h ws)
  where
    by_key : (same_key w.0 key ≡ true) ⊎ (false ≡ true) → has_key keys w.0 ≡ true
    by_key (inl s) = ap (has_key keys) ((same_key-Decides w.0 key).0 s) ∙ h
    by_key (inr s) = absurd (true≢false (sym s))

    by_first : (has_key (key ∷ []) w.0 ≡ true) ⊎ (list_any (λ (u : Key × ℕ). has_key (key ∷ []) u.0) ws ≡ true) → (list_any (λ (u : Key × ℕ). has_key (key ∷ []) u.0) ws ≡ true → list_any (λ (u : Key × ℕ). has_key keys u.0) ws ≡ true) → list_any (λ (u : Key × ℕ). has_key keys u.0) (w ∷ ws) ≡ true
    by_first (inl f) ih = or_left (has_key keys w.0) (list_any (λ (u : Key × ℕ). has_key keys u.0) ws) (by_key (or_cases (same_key w.0 key) false f))
    by_first (inr f) ih = or_right (has_key keys w.0) (list_any (λ (u : Key × ℕ). has_key keys u.0) ws) (ih f)

-- who is named is above a time that all that are named are above
named_above : (time : ℕ) (skipped : List Skipped) (p : PreparedWriter) → EachOf (IsBefore time) skipped → names skipped p ≡ true → time < p.prepare_time
named_above time [] p h e = absurd (true≢false (sym e))
named_above time (s ∷ skipped) p h e = by_first (or_cases (same_attempt p.attempt s.attempt && s.prepare_time == p.prepare_time) (names skipped p) e) (named_above time skipped p h.1)
  where
    by_first : ((same_attempt p.attempt s.attempt && s.prepare_time == p.prepare_time) ≡ true) ⊎ (names skipped p ≡ true) → (names skipped p ≡ true → time < p.prepare_time) → time < p.prepare_time
    by_first (inl f) ih =
        let q = and_parts (same_attempt p.attempt s.attempt) (s.prepare_time == p.prepare_time) f in
        let t = eqb-true s.prepare_time p.prepare_time q.1 in
        let b : time < s.prepare_time = h.0 in
        omega (arith, t, b)
    by_first (inr f) ih = ih f

-- the version that shows is not older than the one found before
pub last_not_older : (bound time : ℕ) (vs : List Version) (found : Version) → EachOf (IsAbove bound) vs → bound ≤ found.time → bound ≤ (last_upto found time vs).time
last_not_older bound time [] found h l = l
last_not_older bound time (v ∷ vs) found h l =
    let a : bound < v.time = h.0 in
    cond_both (nat_le v.time time) v found (λ (f : Version). bound ≤ (last_upto f time vs).time)
    (λ e. last_not_older bound time vs v h.1 (omega (arith, a))) (λ e. last_not_older bound time vs found h.1 l)

-- where the version at a time is not above a smaller one, it shows there too
last_earlier : (time later : ℕ) → time ≤ later → (vs : List Version) (found : Version) → AreRising vs → (last_upto found later vs).time ≤ time → last_upto found time vs ≡ last_upto found later vs
last_earlier time later l [] found r h = refl
last_earlier time later l (v ∷ vs) found r h = by_tests (nat_le v.time time) refl (nat_le v.time later) refl h (last_earlier time later l vs v r.1) (last_earlier time later l vs found r.1)
  where
    by_tests : (b : Bool) → nat_le v.time time ≡ b → (c : Bool) → nat_le v.time later ≡ c → (last_upto (if c then v else found) later vs).time ≤ time → ((last_upto v later vs).time ≤ time → last_upto v time vs ≡ last_upto v later vs) → ((last_upto found later vs).time ≤ time → last_upto found time vs ≡ last_upto found later vs) → last_upto found time (v ∷ vs) ≡ last_upto found later (v ∷ vs)
    by_tests true e true f g ih jh = rw (e, f) (ih g)
    by_tests true e false f g ih jh = absurd (let a = leb-true v.time time e in let b = leb-false v.time later f in omega (arith, a, b, l))
    by_tests false e true f g ih jh =
        let a = leb-false v.time time e in
        let c = last_not_older v.time later vs v r.0 (omega arith) in
        absurd (omega (arith, a, g, c))
    by_tests false e false f g ih jh = rw (e, f) (jh g)

after_snapshot : (sh : Shard) (latest read_time least : ℕ) (keys : List Key) (skip : Bool) → ((shard_after sh latest (Snapshot read_time least keys skip)).prepared ≡ sh.prepared) × ((shard_after sh latest (Snapshot read_time least keys skip)).store ≡ sh.store)
unfolding shard_after
after_snapshot sh latest read_time least keys skip = cond_both (is_clear sh keys read_time least skip) (record sh { floor = max sh.floor read_time }) sh (λ (w : Shard). (w.prepared ≡ sh.prepared) × (w.store ≡ sh.store)) (λ e. (refl, refl)) (λ e. (refl, refl))

pub closes : (sh : Shard) → IsReached sh → (latest read_time least : ℕ) (keys : List Key) (skip : Bool) (versions : List (Key × Version)) (skipped : List Skipped) → shard_reply sh latest (Snapshot read_time least keys skip) ≡ reply.Values versions skipped → (key : Key) (time : ℕ) → IsTrue (has_key keys key) → time ≤ read_time → EachOf (IsBefore time) skipped → (version_at sh.store key read_time).time ≤ time → ClosesAt (shard_after sh latest (Snapshot read_time least keys skip)) key time (version_at sh.store key read_time)
closes sh x latest read_time least keys skip versions skipped e key time k l b v = record {
  closed = record { floor = (let f = answered_floor sh latest read_time least keys skip versions skipped e in omega (arith, f, l)); writers = λ p t w. by_time p (ap (λ (ps : List PreparedWriter). prepared_of ps p.attempt) (sym same.0) ∙ t) w (cases_lt time p.prepare_time) };
  shows = ap (λ (s : List KeyVersions). version_at s key time) same.1 ∙ last_earlier time read_time l (versions_of sh.store key) opening_version (rising sh x key) v;
}
  where
    same : ((shard_after sh latest (Snapshot read_time least keys skip)).prepared ≡ sh.prepared) × ((shard_after sh latest (Snapshot read_time least keys skip)).store ≡ sh.store)
    same = after_snapshot sh latest read_time least keys skip

    by_time : (p : PreparedWriter) → prepared_of sh.prepared p.attempt ≡ Some p → writes_key p key ≡ true → (time < p.prepare_time) ⊎ (p.prepare_time ≤ time) → time < p.prepare_time
    by_time p t w (inl a) = a
    by_time p t w (inr a) =
        let q = (answered sh x latest read_time least keys skip versions skipped e).each p record { there = t; writes = writes_among keys key k p.writes w; upto = omega (arith, a, l) } in
        named_above time skipped p b q.named
