-- Holders: what one that is granted its locks is shown, and where holders come from.
use Rattle.std.proofs.Common.{◌≡◌, ◌⊎◌, inl, inr, ℕ, List, Some, refl, sym, ap, ◌∙◌}
use Rattle.rss_names.specs.declared.attempt.Attempt.{Attempt}
use Rattle.rss_names.specs.declared.service.Key.{Key}
use Rattle.rss_wire.specs.declared.messages.Request.{Request}
use Rattle.rss_wire.specs.declared.messages.Request.TheVariants.{Lock}
use Rattle.rss_wire.specs.declared.messages.Reply.TheVariants as reply
use Rattle.rss_wire.specs.declared.messages.Version.{Version}
use Rattle.rss_tables.specs.Locks.{LockHolder}
use Rattle.rss_tables.specs.Versions.{KeyVersions, newest_of}
use Rattle.rss_tables.specs.ShardRow.{Shard, shard_after, shard_reply}
use Rattle.shard_laws.specs.Served.{IsReached}
use Rattle.shard_laws.specs.Entries.{holder_of}
use Rattle.shard_laws.specs.Changes.{IsGranted}
use Rattle.shard_laws.proofs.Laters.{granted_by_request}
use Rattle.shard_laws.proofs.Replies.{granted}
use Rattle.shard_laws.specs.Orderly.{HoldsShown}
use Rattle.shard_laws.proofs.Found.{found_attempt, found_itself}

-- a request for locks leaves the versions
lock_store : (sh : Shard) (latest : ℕ) (a : Attempt) (coordinator : ℕ) (reads writes : List Key) → (shard_after sh latest (Lock a coordinator reads writes)).store ≡ sh.store
unfolding shard_after
lock_store sh latest a coordinator reads writes = refl

-- who is told that its locks are granted holds locks, and is shown the newest versions
pub granted_shown : (sh : Shard) (latest : ℕ) (a : Attempt) (coordinator : ℕ) (reads writes : List Key) (shown : List (Key × Version)) → IsReached sh → shard_reply sh latest (Lock a coordinator reads writes) ≡ reply.Granted shown → (h : LockHolder) × ((holder_of (shard_after sh latest (Lock a coordinator reads writes)).locks.holders a ≡ Some h) × (shown ≡ newest_of (shard_after sh latest (Lock a coordinator reads writes)).store reads))
granted_shown sh latest a coordinator reads writes shown x e =
    let g = granted sh latest a coordinator reads writes shown e in
    (g.holder, (g.holds, g.newest ∙ ap (λ (store : List KeyVersions). newest_of store reads) (sym (lock_store sh latest a coordinator reads writes))))

-- who holds locks after a request held them before, or asks for just these
pub holder_from : (sh : Shard) (latest : ℕ) (r : Request) → IsReached sh → (a : Attempt) (h : LockHolder) → holder_of (shard_after sh latest r).locks.holders a ≡ Some h → (holder_of sh.locks.holders a ≡ Some h) ⊎ (r ≡ Lock a h.coordinator h.reads h.writes)
holder_from sh latest r x a h e = by_case (granted_by_request sh x latest r h (found_itself (shard_after sh latest r).locks.holders a h e))
  where
    itself : h.attempt ≡ a
    itself = found_attempt (shard_after sh latest r).locks.holders a h e

    by_case : (holder_of sh.locks.holders h.attempt ≡ Some h) ⊎ IsGranted sh r h → (holder_of sh.locks.holders a ≡ Some h) ⊎ (r ≡ Lock a h.coordinator h.reads h.writes)
    by_case (inl f) = inl (ap (holder_of sh.locks.holders) (sym itself) ∙ f)
    by_case (inr g) = inr (g.asks ∙ ap (λ (z : Attempt). Lock z h.coordinator h.reads h.writes) itself)

-- who is told that its locks are granted was shown what it holds, where it holds just what it asks for
pub granted_holds : (sh : Shard) (latest : ℕ) (a : Attempt) (coordinator : ℕ) (reads writes : List Key) (shown : List (Key × Version)) → IsReached sh → shard_reply sh latest (Lock a coordinator reads writes) ≡ reply.Granted shown → ((h : LockHolder) → holder_of (shard_after sh latest (Lock a coordinator reads writes)).locks.holders a ≡ Some h → (h.reads ≡ reads) × (h.writes ≡ writes)) → HoldsShown (shard_after sh latest (Lock a coordinator reads writes)) a reads writes shown
granted_holds sh latest a coordinator reads writes shown x e f =
    let g = granted_shown sh latest a coordinator reads writes shown x e in
    let same = f g.0 g.1.0 in
    record { holder = g.0; there = g.1.0; reads_same = same.0; writes_same = same.1; newest = sym g.1.1 }
