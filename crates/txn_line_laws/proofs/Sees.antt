-- What a reader sees of a key on the key's shard, and where each writer of the key stands against it.
use Rattle.std.proofs.Common.{◌≡◌, ◌⊎◌, inl, inr, ℕ, ◌<◌, ◌≤◌, ◌-◌, List, [], ◌∷◌, Some, refl, sym, ap, ◌∙◌, subst, arith}
use Rattle.std.specs.Prelude.{IsTrue}
use Rattle.std.proofs.lemmas.Bool.{cases_lt}
use Rattle.rss_names.specs.declared.service.Key.{Key}
use Rattle.rss_wire.specs.declared.messages.Version.{Version}
use Rattle.rss_tables.specs.Prepared.{PreparedWriter, prepared_of}
use Rattle.rss_tables.specs.ShardRow.{Shard}
use Rattle.rss_tables.specs.Versions.{versions_of, opening_version, newest_version, version_at, last_version}
use Rattle.shard_laws.specs.Closed.{EachOf, writes_key}
use Rattle.shard_laws.specs.Served.{IsReached}
use Rattle.shard_laws.specs.Snapshots.{ClosesAt}
use Rattle.shard_laws.proofs.Closes.{rising}
use Rattle.shard_laws.proofs.Newest.{newest_shows, shows_earlier}
use Rattle.shard_laws.proofs.Order.{closed_before, closed_writers, closed_version, closed_upto}
use Rattle.txn_line_laws.proofs.Stands.{Stands, stands_prepared, stands_applied}

-- a reader at a time was shown a version of a key: the key is closed at its time and shows it; or its own version stands at its
-- time, and what it was shown right below; or the reader is prepared still, what it was shown is the newest, and nobody else is
-- prepared to write the key
pub data Sees (sh : Shard) (key : Key) (o time : ℕ) (v : Version) : Type 0 where
  sees_closed : ClosesAt sh key time v → Sees sh key o time v
  sees_below : (value : ℕ) → 0 < time → ClosesAt sh key (time - 1) v → ClosesAt sh key time record { value = value; time = time; writer = o } → Sees sh key o time v
  sees_newest : v ≡ newest_version sh.store key → v.time < time → ((p : PreparedWriter) → prepared_of sh.prepared p.attempt ≡ Some p → IsTrue (writes_key p key) → p.attempt.call ≡ o) → Sees sh key o time v

-- a writer stands before what was shown, is what was shown, or stands after the reader
pub data StandsAgainst (w value t time : ℕ) (v : Version) : Type 0 where
  is_earlier : t < v.time → StandsAgainst w value t time v
  is_shown : ◌≡◌ {A = Version} (record { value = value; time = t; writer = w }) v → StandsAgainst w value t time v
  is_later : time < t → StandsAgainst w value t time v

by_closed : (sh : Shard) → IsReached sh → (key : Key) (time : ℕ) (v : Version) → ClosesAt sh key time v → (w value t : ℕ) → ClosesAt sh key t record { value = value; time = t; writer = w } → StandsAgainst w value t time v
by_closed sh x key time v c w value t d = by_time (cases_lt time t)
  where
    by_order : (t < v.time) ⊎ (◌≡◌ {A = Version} (record { value = value; time = t; writer = w }) v) → StandsAgainst w value t time v
    by_order (inl l) = is_earlier l
    by_order (inr e) = is_shown e

    by_time : (time < t) ⊎ (t ≤ time) → StandsAgainst w value t time v
    by_time (inl l) = is_later l
    by_time (inr l) = by_order (closed_before sh x key time v t (record { value = value; time = t; writer = w }) c d l)

-- the newest version against one that stands
by_newest : (sh : Shard) → IsReached sh → (key : Key) (v : Version) → v ≡ newest_version sh.store key → (w value t time : ℕ) → ClosesAt sh key t record { value = value; time = t; writer = w } → StandsAgainst w value t time v
by_newest sh x key v e w value t time d = by_time (cases_lt v.time t)
  where
    by_earlier : (t < (version_at sh.store key v.time).time) ⊎ (version_at sh.store key t ≡ version_at sh.store key v.time) → StandsAgainst w value t time v
    by_earlier (inl l) = is_earlier (subst (λ (u : Version). t < u.time) (newest_shows v.time (versions_of sh.store key) opening_version (rising sh x key) (let f = ap (λ (u : Version). u.time) e in omega (arith, f)) ∙ sym e) l)
    by_earlier (inr f) = is_shown (sym d.shows ∙ f ∙ (newest_shows v.time (versions_of sh.store key) opening_version (rising sh x key) (let g = ap (λ (u : Version). u.time) e in omega (arith, g)) ∙ sym e))

    by_time : (v.time < t) ⊎ (t ≤ v.time) → StandsAgainst w value t time v
    by_time (inl l) = is_shown (sym d.shows ∙ (newest_shows t (versions_of sh.store key) opening_version (rising sh x key) (let f = ap (λ (u : Version). u.time) e in omega (arith, f, l)) ∙ sym e))
    by_time (inr l) = by_earlier (shows_earlier t v.time l (versions_of sh.store key) opening_version (rising sh x key))

-- each writer but the reader itself
pub stands_against : (sh : Shard) → IsReached sh → (key : Key) (o time : ℕ) (v : Version) → Sees sh key o time v → (w value t : ℕ) → (w ≡ o → ⊥) → Stands sh key w value t → StandsAgainst w value t time v
stands_against sh x key o time v (sees_closed c) w value t n (stands_applied d) = by_closed sh x key time v c w value t d
stands_against sh x key o time v (sees_closed c) w value t n (stands_prepared p e k l f) = is_later (let a = closed_writers sh key time v c p e k in omega (arith, a, l))
stands_against sh x key o time v (sees_below own z c d) w value t n (stands_prepared p e k l f) = is_later (let a = closed_writers sh key time _ d p e k in omega (arith, a, l))
stands_against sh x key o time v (sees_below own z c d) w value t n (stands_applied f) = by_own (by_closed sh x key time _ d w value t f)
  where
    below : StandsAgainst w value t (time - 1) v → t < time → StandsAgainst w value t time v
    below (is_earlier l) m = is_earlier l
    below (is_shown e) m = is_shown e
    below (is_later l) m = absurd (omega (arith, l, m, z))

    by_own : StandsAgainst w value t time (record { value = own; time = time; writer = o }) → StandsAgainst w value t time v
    by_own (is_earlier l) = below (by_closed sh x key (time - 1) v c w value t f) l
    by_own (is_shown e) = absurd (n (ap (λ (u : Version). u.writer) e))
    by_own (is_later l) = is_later l
stands_against sh x key o time v (sees_newest e l only) w value t n (stands_applied d) = by_newest sh x key v e w value t time d
stands_against sh x key o time v (sees_newest e l only) w value t n (stands_prepared p g k m f) = absurd (n (sym f ∙ only p g k))

-- what was shown is the opening version, or what all versions of the key are
last_one : (P : Version → Type 0) (vs : List Version) (found : Version) → EachOf P vs → (last_version found vs ≡ found) ⊎ P (last_version found vs)
last_one P [] found h = inl refl
last_one P (v ∷ vs) found h = by_rest (last_one P vs v h.1)
  where
    by_rest : (last_version v vs ≡ v) ⊎ P (last_version v vs) → (last_version v vs ≡ found) ⊎ P (last_version v vs)
    by_rest (inl e) = inr (subst P (sym e) h.0)
    by_rest (inr p) = inr p

pub seen_version : (sh : Shard) (key : Key) (o time : ℕ) (v : Version) (P : Version → Type 0) → EachOf P (versions_of sh.store key) → Sees sh key o time v → (v ≡ opening_version) ⊎ P v
seen_version sh key o time v P h (sees_closed c) = closed_version sh key time v P h c
seen_version sh key o time v P h (sees_below value z c d) = closed_version sh key (time - 1) v P h c
seen_version sh key o time v P h (sees_newest e l only) = by_last (last_one P (versions_of sh.store key) opening_version h)
  where
    by_last : (newest_version sh.store key ≡ opening_version) ⊎ P (newest_version sh.store key) → (v ≡ opening_version) ⊎ P v
    by_last (inl f) = inl (e ∙ f)
    by_last (inr p) = inr (subst P (sym e) p)

pub seen_before : (sh : Shard) (key : Key) (o time : ℕ) (v : Version) → Sees sh key o time v → v.time ≤ time
seen_before sh key o time v (sees_closed c) = closed_upto sh key time v c
seen_before sh key o time v (sees_below value z c d) = let a = closed_upto sh key (time - 1) v c in omega (arith, a)
seen_before sh key o time v (sees_newest e l only) = omega (arith, l)
