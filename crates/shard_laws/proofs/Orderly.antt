-- A shard is orderly at first, and each request that is in order keeps it so.
use Rattle.std.proofs.Common.{◌≡◌, ◌⊎◌, inl, inr, ℕ, ◌<◌, ◌≤◌, true, List, [], Option, Some, None, refl, sym, ap, ◌∙◌, subst, arith}
use Rattle.rss_names.specs.declared.attempt.Attempt.{Attempt}
use Rattle.rss_names.specs.declared.service.Key.{Key}
use Rattle.rss_wire.specs.declared.messages.Request.{Request}
use Rattle.rss_wire.specs.declared.messages.Request.TheVariants.{Lock, Prepare}
use Rattle.rss_wire.specs.declared.messages.Version.{Version}
use Rattle.rss_tables.specs.Locks.{LockHolder}
use Rattle.rss_tables.specs.Prepared.{PreparedWriter, prepared_of}
use Rattle.rss_tables.specs.Versions.{versions_of, newest_version, last_version, opening_version}
use Rattle.rss_tables.specs.ShardRow.{Shard, opening_shard, shard_after}
use Rattle.shard_laws.specs.Entries.{holder_of}
use Rattle.shard_laws.specs.Changes.{IsGranted, IsPreparedBy}
use Rattle.shard_laws.specs.Fitting.{locks_key}
use Rattle.shard_laws.proofs.Laters.{holding, granted_by_request, prepared_by_request}
use Rattle.shard_laws.proofs.Closes.{at_most_floor}
use Rattle.shard_laws.proofs.Fits.{locked_after, locked_stays, reached_after}
use Rattle.shard_laws.proofs.Releases.{locked_opening}
use Rattle.shard_laws.specs.Orderly.{IsOrderly, IsInOrder}
use Rattle.shard_laws.proofs.Newest.{newest_upto}
use Rattle.shard_laws.proofs.Found.{found_attempt, found_itself, not_free}

-- a shard that has served nothing is orderly
pub orderly_first : (keys : List Key) → IsOrderly (opening_shard keys)
orderly_first keys = record {
  reached = record { keys = keys; requests = []; by = refl };
  locked = locked_opening keys;
  above = λ p h e f key l. absurd (let x : ◌≡◌ {A = Option PreparedWriter} None (Some p) = e in cc);
}

-- a request to prepare asks for no locks
not_both : (a : Attempt) (least earliest_end : ℕ) (ws : List (Key × ℕ)) (b : Attempt) (c : ℕ) (reads writes : List Key) → Prepare a least earliest_end ws ≡ Lock b c reads writes → ⊥
not_both a least earliest_end ws b c reads writes i = cc

-- no version is above the floor
newest_floor : (sh : Shard) → IsOrderly sh → (key : Key) → (newest_version sh.store key).time ≤ sh.floor
newest_floor sh o key = newest_upto sh.floor (versions_of sh.store key) opening_version (at_most_floor sh o.reached key) (omega arith)

-- a request that is in order keeps a shard orderly
pub orderly_kept : (sh : Shard) (latest : ℕ) (r : Request) → IsOrderly sh → IsInOrder sh r → IsOrderly (shard_after sh latest r)
orderly_kept sh latest r o f = record {
  reached = reached_after sh o.reached latest r;
  locked = locked_after sh o.reached latest r o.locked f.fits;
  above = λ p h e g key l. by_cases p h key l g (found_attempt (shard_after sh latest r).locks.holders p.attempt h g) (prepared_by_request sh o.reached latest r p e) (granted_by_request sh o.reached latest r h (found_itself (shard_after sh latest r).locks.holders p.attempt h g));
}
  where
    -- the newest version of a locked key is what it was
    same : (h : LockHolder) (a : Attempt) (key : Key) → locks_key h key ≡ true → holder_of (shard_after sh latest r).locks.holders a ≡ Some h → holder_of sh.locks.holders h.attempt ≡ Some h → newest_version (shard_after sh latest r).store key ≡ newest_version sh.store key
    same h a key l g i = ap (last_version opening_version) (locked_stays sh (holding sh o.reached) o.locked h i key l latest r (found_itself (shard_after sh latest r).locks.holders a h g))

    by_cases : (p : PreparedWriter) (h : LockHolder) (key : Key) → locks_key h key ≡ true → holder_of (shard_after sh latest r).locks.holders p.attempt ≡ Some h → h.attempt ≡ p.attempt → (prepared_of sh.prepared p.attempt ≡ Some p) ⊎ IsPreparedBy sh latest r p → (holder_of sh.locks.holders h.attempt ≡ Some h) ⊎ IsGranted sh r h → (newest_version (shard_after sh latest r).store key).time < p.prepare_time
    by_cases p h key l g s (inl e) (inl i) = subst (λ (v : Version). v.time < p.prepare_time) (sym (same h p.attempt key l g i)) (o.above p h e (ap (holder_of sh.locks.holders) (sym s) ∙ i) key l)
    by_cases p h key l g s (inl e) (inr i) = absurd (not_free sh o.reached p e (ap (holder_of sh.locks.holders) (sym s) ∙ i.free))
    by_cases p h key l g s (inr e) (inl i) =
        let n = newest_floor sh o key in
        let a = e.above_floor in
        subst (λ (v : Version). v.time < p.prepare_time) (sym (same h p.attempt key l g i)) (omega (arith, n, a))
    by_cases p h key l g s (inr e) (inr i) = absurd (not_both p.attempt e.least p.earliest_end p.writes h.attempt h.coordinator h.reads h.writes (sym e.asks ∙ i.asks))
