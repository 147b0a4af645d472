-- Versions rise and stay below the floor; new ones come from prepared attempts; what is closed stays.
use Rattle.std.proofs.Common.{◌≡◌, ◌⊎◌, inl, inr, ℕ, ◌<◌, ◌≤◌, max, Bool, true, false, List, [], ◌∷◌, ◌++◌, Some, is_some, refl, sym, ap, ◌∙◌, subst, arith, append_assoc}
use Rattle.std.specs.Prelude.{⊤, IsTrue}
use Rattle.std.proofs.lemmas.Bool.{cond_both, or_left}
use Rattle.std.proofs.lemmas.List.{append-nil}
use Rattle.rss_names.specs.declared.attempt.Attempt.{Attempt}
use Rattle.rss_names.specs.declared.service.Key.{Key}
use Rattle.rss_names.specs.Services.{same_key}
use Rattle.rss_names.proofs.Services.{same_key-Decides}
use Rattle.rss_wire.specs.declared.messages.Outcome.{Outcome}
use Rattle.rss_wire.specs.declared.messages.Outcome.TheVariants.{Aborted}
use Rattle.rss_wire.specs.declared.messages.Request.{Request}
use Rattle.rss_wire.specs.declared.messages.Version.{Version}
use Rattle.rss_tables.specs.Locks.{has_key}
use Rattle.rss_tables.specs.Prepared.{PreparedWriter, prepared_of}
use Rattle.rss_tables.specs.Versions.{KeyVersions, versions_of, version_at, last_upto, opening_version, with_version}
use Rattle.rss_tables.specs.ShardRow.{Shard, opening_shard, decision_in, keeps_decision, written_since, applied, releases, releases_last, shard_after}
use Rattle.shard_laws.specs.Served.{served, IsReached}
use Rattle.shard_laws.specs.Entries.{entry_of, prepared_by}
use Rattle.shard_laws.specs.Closed.{EachOf, IsAtMost, IsAbove, AreRising, writes_key, IsTimely, AreTimely, IsOfPrepared, ComesLater, GrowLater, IsClosed}
use Rattle.shard_laws.proofs.Cases.{cases}
use Rattle.shard_laws.proofs.Entries.{found_at}
use Rattle.shard_laws.proofs.Lists.{prepared_is}
use Rattle.shard_laws.proofs.Served.{reached_keeps}
use Rattle.shard_laws.proofs.Rising.{each_more, each_append, rising_more, all_before, version_put, applied_keeps, each_among, each_any, last_same, unwritten_none}
use Rattle.shard_laws.proofs.Laters.{holding, Since, since_after, since_served, floor_later}

-- the versions rise and are at most the floor
pub record Levels (store : List KeyVersions) (floor : ℕ) : Type 0 where
  pub rising : (key : Key) → AreRising (versions_of store key)
  pub below : (key : Key) → EachOf (IsAtMost floor) (versions_of store key)

levels_higher : (store : List KeyVersions) (n m : ℕ) → n ≤ m → Levels store n → Levels store m
levels_higher store n m l h = record { rising = h.rising; below = λ key. each_more (IsAtMost n) (IsAtMost m) (λ v i. omega (arith, i, l)) (versions_of store key) (h.below key) }

-- decisions leave the store and the floor
pub decides_beside : (P : List KeyVersions → ℕ → Type 0) (sh : Shard) (attempt : Attempt) (outcome : Outcome) → P sh.store sh.floor → P (keeps_decision sh attempt outcome).store (keeps_decision sh attempt outcome).floor
decides_beside P sh attempt outcome h = cond_both (is_some (decision_in sh.decisions attempt)) sh (record sh { decisions = sh.decisions ++ (attempt, outcome) ∷ [] }) (λ (s : Shard). P s.store s.floor) (λ e. h) (λ e. h)

levels_put : (floor time call : ℕ) → time ≤ floor → (store : List KeyVersions) (w : Key × ℕ) → ⊤ → written_since (versions_of store w.0) time ≡ false → Levels store floor → Levels (with_version store w.0 record { value = w.1; time = time; writer = call }) floor
levels_put floor time call l store w q e h = record { rising = λ key. rises key (version_put store w.0 new key); below = λ key. stays key (version_put store w.0 new key) }
  where
    new : Version
    new = record { value = w.1; time = time; writer = call }

    rises : (key : Key) → ((versions_of (with_version store w.0 new) key ≡ versions_of store key ++ new ∷ []) × (w.0 ≡ key)) ⊎ (versions_of (with_version store w.0 new) key ≡ versions_of store key) → AreRising (versions_of (with_version store w.0 new) key)
    rises key (inl p) =
        let before : EachOf (λ (u : Version). u.time < time) (versions_of store key) = subst (λ (k : Key). EachOf (λ (u : Version). u.time < time) (versions_of store k)) p.1 (all_before (versions_of store w.0) time e) in
        subst AreRising (sym p.0) (rising_more (versions_of store key) new (h.rising key) before)
    rises key (inr p) = subst AreRising (sym p) (h.rising key)

    stays : (key : Key) → ((versions_of (with_version store w.0 new) key ≡ versions_of store key ++ new ∷ []) × (w.0 ≡ key)) ⊎ (versions_of (with_version store w.0 new) key ≡ versions_of store key) → EachOf (IsAtMost floor) (versions_of (with_version store w.0 new) key)
    stays key (inl p) = subst (EachOf (IsAtMost floor)) (sym p.0) (each_append (IsAtMost floor) (versions_of store key) (new ∷ []) (h.below key) (l, tt))
    stays key (inr p) = subst (EachOf (IsAtMost floor)) (sym p) (h.below key)

levels_after : (sh : Shard) (latest : ℕ) (r : Request) → Levels sh.store sh.floor → Levels (shard_after sh latest r).store (shard_after sh latest r).floor
levels_after sh latest r h = cases sh latest r (λ (w : Shard). Levels w.store w.floor) record {
  rest = h;
  locks = λ new i t n. h;
  prepares = λ b l e w c i n g. h;
  decides = λ b c t i. decides_beside Levels sh b _ h;
  commits = λ b t p i f. applied_keeps (λ (s : List KeyVersions). Levels s (max sh.floor t)) b.call t (λ (w : Key × ℕ). ⊤) (levels_put (max sh.floor t) t b.call (omega arith)) p.writes (each_any p.writes) sh.store (levels_higher sh.store sh.floor (max sh.floor t) (omega arith) h);
  buries = λ b t i f. h;
  aborts = λ b i. h;
  releases = λ b t last i e. released b t last;
  reads = λ t l ks s i e. levels_higher sh.store sh.floor (max sh.floor t) (omega arith) h;
}
  where
    released : (b : Attempt) (t : ℕ) (last : Bool) → Levels (releases_last (releases sh b t) b last).store (releases_last (releases sh b t) b last).floor
    released b t true = decides_beside Levels (releases sh b t) b Aborted (levels_higher sh.store sh.floor (max sh.floor t) (omega arith) h)
    released b t false = levels_higher sh.store sh.floor (max sh.floor t) (omega arith) h

levels_opening : (keys : List Key) → Levels (opening_shard keys).store (opening_shard keys).floor
levels_opening keys = record { rising = λ key. subst AreRising (sym (unwritten_none keys key)) tt; below = λ key. subst (EachOf (IsAtMost 0)) (sym (unwritten_none keys key)) tt }

pub levels : (sh : Shard) → IsReached sh → Levels sh.store sh.floor
levels sh x = reached_keeps (λ (w : Shard). Levels w.store w.floor) levels_opening levels_after sh x

pub rising : (sh : Shard) → IsReached sh → (key : Key) → AreRising (versions_of sh.store key)
rising sh x = (levels sh x).rising

pub at_most_floor : (sh : Shard) → IsReached sh → (key : Key) → EachOf (IsAtMost sh.floor) (versions_of sh.store key)
at_most_floor sh x = (levels sh x).below

-- what each timely request keeps, timely requests keep
pub timely_keeps : (P : Shard → Type 0) → ((sh : Shard) (latest : ℕ) (r : Request) → IsTimely sh r → P sh → P (shard_after sh latest r)) → (sh : Shard) (requests : List (ℕ × Request)) → AreTimely sh requests → P sh → P (served sh requests)
timely_keeps P step sh [] t p = p
timely_keeps P step sh (r ∷ requests) t p = timely_keeps P step (shard_after sh r.0 r.1) requests t.1 (step sh r.0 r.1 t.0 p)

-- the versions of a key that a request adds, each of a prepared attempt
pub record Grew (w : Shard) (key : Key) (new : List Version) : Type 0 where
  pub more : List Version
  pub grown : new ≡ versions_of w.store key ++ more
  pub each : EachOf (IsOfPrepared w key) more

grew_none : (w : Shard) (key : Key) (new : List Version) → new ≡ versions_of w.store key → Grew w key new
grew_none w key new e = record { more = []; grown = e ∙ sym (append-nil (versions_of w.store key)); each = tt }

grew_put : (w : Shard) (key : Key) (a : Attempt) (p : PreparedWriter) (time : ℕ) → prepared_of w.prepared a ≡ Some p → p.prepare_time ≤ time → (store : List KeyVersions) (write : Key × ℕ) → (has_key (key ∷ []) write.0 ≡ true → writes_key p key ≡ true) → written_since (versions_of store write.0) time ≡ false → Grew w key (versions_of store key) → Grew w key (versions_of (with_version store write.0 record { value = write.1; time = time; writer = a.call }) key)
grew_put w key a p time e l store write q s g = by_key (version_put store write.0 new key)
  where
    new : Version
    new = record { value = write.1; time = time; writer = a.call }

    same : p.attempt ≡ a
    same = found_at prepared_by w.prepared a p (sym (prepared_is w.prepared a) ∙ e)

    by_key : ((versions_of (with_version store write.0 new) key ≡ versions_of store key ++ new ∷ []) × (write.0 ≡ key)) ⊎ (versions_of (with_version store write.0 new) key ≡ versions_of store key) → Grew w key (versions_of (with_version store write.0 new) key)
    by_key (inl i) = record {
      more = g.more ++ new ∷ [];
      grown = i.0 ∙ ap (λ (vs : List Version). vs ++ new ∷ []) g.grown ∙ append_assoc (versions_of w.store key) g.more (new ∷ []);
      each = each_append (IsOfPrepared w key) g.more (new ∷ []) g.each (
        record {
          entry = p;
          there = ap (λ (z : Attempt). prepared_of w.prepared z) same ∙ e;
          writes = q (or_left (same_key write.0 key) false ((same_key-Decides write.0 key).1 i.1));
          writer = ap (λ (z : Attempt). z.call) (sym same);
          time = l;
        },
        tt,
      );
    }
    by_key (inr i) = record { more = g.more; grown = i ∙ g.grown; each = g.each }

pub grew_after : (w : Shard) (latest : ℕ) (r : Request) (key : Key) → IsTimely w r → Grew w key (versions_of (shard_after w latest r).store key)
grew_after w latest r key t = cases w latest r (λ (v : Shard). Grew w key (versions_of v.store key)) record {
  rest = same;
  locks = λ new i u n. same;
  prepares = λ b l e ws c i n g. same;
  decides = λ b c u i. decides_beside (λ (s : List KeyVersions) (n : ℕ). Grew w key (versions_of s key)) w b _ same;
  commits = λ b u p i f. committed b u p f (subst (IsTimely w) i t p f);
  buries = λ b u i f. same;
  aborts = λ b i. same;
  releases = λ b u last i e. released b u last;
  reads = λ u l ks s i e. same;
}
  where
    same : Grew w key (versions_of w.store key)
    same = grew_none w key (versions_of w.store key) refl

    committed : (b : Attempt) (u : ℕ) (p : PreparedWriter) → prepared_of w.prepared b ≡ Some p → p.prepare_time ≤ u → Grew w key (versions_of (applied w.store b.call u p.writes) key)
    committed b u p f l = applied_keeps (λ (s : List KeyVersions). Grew w key (versions_of s key)) b.call u (λ (write : Key × ℕ). has_key (key ∷ []) write.0 ≡ true → writes_key p key ≡ true) (grew_put w key b p u f l) p.writes (each_among (λ (write : Key × ℕ). has_key (key ∷ []) write.0) (writes_key p key) p.writes (λ e. e)) w.store same

    released : (b : Attempt) (u : ℕ) (last : Bool) → Grew w key (versions_of (releases_last (releases w b u) b last).store key)
    released b u true = decides_beside (λ (s : List KeyVersions) (n : ℕ). Grew w key (versions_of s key)) (releases w b u) b Aborted same
    released b u false = same

-- from a state to later ones
record GrowSince (sh : Shard) (key : Key) (w : Shard) : Type 0 where
  since : Since sh w
  grow : GrowLater sh w key

comes_since : (sh w : Shard) (key : Key) → Since sh w → (v : Version) → IsOfPrepared w key v → ComesLater sh key v
comes_since sh w key s v o = by_entry (s.each o.entry (sym (prepared_is w.prepared o.entry.attempt) ∙ o.there))
  where
    by_entry : (entry_of prepared_by sh.prepared o.entry.attempt ≡ Some o.entry) ⊎ (sh.floor < o.entry.prepare_time) → ComesLater sh key v
    by_entry (inl e) = inr record { entry = o.entry; there = prepared_is sh.prepared o.entry.attempt ∙ e; writes = o.writes; writer = o.writer; time = o.time }
    by_entry (inr l) = inl (let t = o.time in omega (arith, l, t))

grow_after : (sh : Shard) (key : Key) (w : Shard) (latest : ℕ) (r : Request) → IsTimely w r → GrowSince sh key w → GrowSince sh key (shard_after w latest r)
grow_after sh key w latest r t k =
    let g = grew_after w latest r key t in
    record {
      since = since_after sh w latest r k.since;
      grow = record {
        more = k.grow.more ++ g.more;
        grown = g.grown ∙ ap (λ (vs : List Version). vs ++ g.more) k.grow.grown ∙ append_assoc (versions_of sh.store key) k.grow.more g.more;
        each = each_append (ComesLater sh key) k.grow.more g.more k.grow.each (each_more (IsOfPrepared w key) (ComesLater sh key) (comes_since sh w key k.since) g.more g.each);
      };
    }

pub grow_later : (sh : Shard) → IsReached sh → (requests : List (ℕ × Request)) → AreTimely sh requests → (key : Key) → GrowLater sh (served sh requests) key
grow_later sh x requests t key =
    (timely_keeps (GrowSince sh key) (grow_after sh key) sh requests t record {
      since = record { state = holding sh x; floor = omega arith; each = λ q f. inl f };
      grow = record { more = []; grown = sym (append-nil (versions_of sh.store key)); each = tt };
    }).grow

-- what comes later at a closed key is above the time
comes_above : (sh : Shard) (key : Key) (time : ℕ) → IsClosed sh key time → (v : Version) → ComesLater sh key v → IsAbove time v
comes_above sh key time c v (inl l) = let f = c.floor in omega (arith, l, f)
comes_above sh key time c v (inr o) =
    let a = c.writers o.entry o.there o.writes in
    let t = o.time in omega (arith, a, t)

pub closed_later : (sh : Shard) → IsReached sh → (requests : List (ℕ × Request)) (key : Key) (time : ℕ) → IsClosed sh key time → IsClosed (served sh requests) key time
closed_later sh x requests key time c = record {
  floor = (let f = floor_later sh requests in let g = c.floor in omega (arith, f, g));
  writers = λ p e w. by_entry p w (since_served sh x requests p e);
}
  where
    by_entry : (p : PreparedWriter) → IsTrue (writes_key p key) → (prepared_of sh.prepared p.attempt ≡ Some p) ⊎ (sh.floor < p.prepare_time) → time < p.prepare_time
    by_entry p w (inl e) = c.writers p e w
    by_entry p w (inr l) = let f = c.floor in omega (arith, l, f)

pub version_stays : (sh : Shard) → IsReached sh → (requests : List (ℕ × Request)) → AreTimely sh requests → (key : Key) (time : ℕ) → IsClosed sh key time → version_at (served sh requests).store key time ≡ version_at sh.store key time
version_stays sh x requests t key time c =
    let g = grow_later sh x requests t key in
    ap (λ (vs : List Version). last_upto opening_version time vs) g.grown
    ∙ last_same opening_version time (versions_of sh.store key) g.more (each_more (ComesLater sh key) (IsAbove time) (comes_above sh key time c) g.more g.each)
