-- How what is closed for a key at one time stands to what is closed at another, and to prepared writers.
use Rattle.std.proofs.Common.{◌≡◌, ◌⊎◌, inl, inr, ℕ, ◌<◌, ◌≤◌, Some, sym, ◌∙◌, subst, arith}
use Rattle.std.specs.Prelude.{IsTrue}
use Rattle.rss_names.specs.declared.service.Key.{Key}
use Rattle.rss_wire.specs.declared.messages.Version.{Version}
use Rattle.rss_tables.specs.Prepared.{PreparedWriter, prepared_of}
use Rattle.rss_tables.specs.Versions.{versions_of, version_at, opening_version}
use Rattle.rss_tables.specs.ShardRow.{Shard}
use Rattle.rss_tables.proofs.TableLaws.{upto-time}
use Rattle.shard_laws.specs.Served.{IsReached}
use Rattle.shard_laws.specs.Closed.{EachOf, writes_key}
use Rattle.shard_laws.specs.Snapshots.{ClosesAt}
use Rattle.shard_laws.proofs.Closes.{rising}
use Rattle.shard_laws.proofs.Newest.{shows_earlier, shows_one}

-- a prepared writer of a key is above each time that is closed for the key
pub closed_writers : (sh : Shard) (key : Key) (time : ℕ) (v : Version) → ClosesAt sh key time v → (p : PreparedWriter) → prepared_of sh.prepared p.attempt ≡ Some p → IsTrue (writes_key p key) → time < p.prepare_time
closed_writers sh key time v c p e w = c.closed.writers p e w

-- what shows at an earlier closed time is what shows at a later one, or that one is above the earlier time
pub closed_before : (sh : Shard) → IsReached sh → (key : Key) (time : ℕ) (v : Version) (t : ℕ) (w : Version) → ClosesAt sh key time v → ClosesAt sh key t w → t ≤ time → (t < v.time) ⊎ (w ≡ v)
closed_before sh x key time v t w c d l = by_case (shows_earlier t time l (versions_of sh.store key) opening_version (rising sh x key))
  where
    by_case : (t < (version_at sh.store key time).time) ⊎ (version_at sh.store key t ≡ version_at sh.store key time) → (t < v.time) ⊎ (w ≡ v)
    by_case (inl a) = inl (subst (λ (u : Version). t < u.time) c.shows a)
    by_case (inr e) = inr (sym d.shows ∙ e ∙ c.shows)

-- the same for a version that stands at its own time
pub closed_order : (sh : Shard) → IsReached sh → (key : Key) (time : ℕ) (v : Version) (t : ℕ) (w : Version) → ClosesAt sh key time v → ClosesAt sh key t w → w.time ≡ t → 0 < t → t ≤ time → (t < v.time) ⊎ (w ≡ v)
closed_order sh x key time v t w c d a b l = closed_before sh x key time v t w c d l

-- what shows at a closed time is not above it
pub closed_upto : (sh : Shard) (key : Key) (time : ℕ) (v : Version) → ClosesAt sh key time v → v.time ≤ time
closed_upto sh key time v c = subst (λ (u : Version). u.time ≤ time) c.shows (upto-time (versions_of sh.store key) opening_version time (omega arith))

-- what shows at a closed time is the opening version, or one of the versions of the key
pub closed_version : (sh : Shard) (key : Key) (time : ℕ) (v : Version) (P : Version → Type 0) → EachOf P (versions_of sh.store key) → ClosesAt sh key time v → (v ≡ opening_version) ⊎ P v
closed_version sh key time v P h c = subst (λ (u : Version). (u ≡ opening_version) ⊎ P u) c.shows (shows_one P time (versions_of sh.store key) opening_version h)
