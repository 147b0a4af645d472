-- What is closed, who is gone, and what holders were shown: each stays, request by request.
use Rattle.std.proofs.Common.{◌≡◌, ◌⊎◌, inl, inr, ℕ, List, [], ◌∷◌, Some, sym, ap, ◌∙◌, subst}
use Rattle.rss_names.specs.declared.attempt.Attempt.{Attempt}
use Rattle.rss_names.specs.declared.service.Key.{Key}
use Rattle.rss_wire.specs.declared.messages.Request.{Request}
use Rattle.rss_wire.specs.declared.messages.Version.{Version}
use Rattle.rss_tables.specs.Locks.{has_key}
use Rattle.rss_tables.specs.ShardRow.{Shard, shard_after}
use Rattle.shard_laws.specs.Served.{IsReached}
use Rattle.shard_laws.specs.Entries.{holder_of}
use Rattle.shard_laws.specs.Locked.{IsGone}
use Rattle.shard_laws.specs.Changes.{KeepsOrLoses}
use Rattle.shard_laws.specs.Snapshots.{ClosesAt}
use Rattle.shard_laws.proofs.Gone.{gone_after}
use Rattle.shard_laws.proofs.Laters.{holding, kept_or_lost}
use Rattle.shard_laws.proofs.Closes.{closed_later, version_stays}
use Rattle.shard_laws.proofs.Fits.{locked_stays}
use Rattle.shard_laws.specs.Orderly.{IsOrderly, IsInOrder, HoldsShown}
use Rattle.shard_laws.proofs.Newest.{newest_same}
use Rattle.shard_laws.proofs.Found.{found_attempt, found_itself, read_locked}

-- what a key shows at a closed time, it shows at it after a request
pub closes_stay : (sh : Shard) (latest : ℕ) (r : Request) → IsOrderly sh → IsInOrder sh r → (key : Key) (time : ℕ) (v : Version) → ClosesAt sh key time v → ClosesAt (shard_after sh latest r) key time v
closes_stay sh latest r o f key time v c = record {
  closed = closed_later sh o.reached ((latest, r) ∷ []) key time c.closed;
  shows = version_stays sh o.reached ((latest, r) ∷ []) (f.timely, tt) key time c.closed ∙ c.shows;
}

-- who is done with stays done with
pub gone_stay : (sh : Shard) (latest : ℕ) (r : Request) → IsReached sh → (a : Attempt) → IsGone sh a → IsGone (shard_after sh latest r) a
gone_stay sh latest r x a g = gone_after sh latest r a g

-- who holds locks holds on, and what it was shown is the newest still, or it is done with
pub shown_stay : (sh : Shard) (latest : ℕ) (r : Request) → IsOrderly sh → IsInOrder sh r → (a : Attempt) (reads writes : List Key) (shown : List (Key × Version)) → HoldsShown sh a reads writes shown → HoldsShown (shard_after sh latest r) a reads writes shown ⊎ IsGone (shard_after sh latest r) a
shown_stay sh latest r o f a reads writes shown h = by_fate (kept_or_lost sh o.reached latest r h.holder held)
  where
    itself : h.holder.attempt ≡ a
    itself = found_attempt sh.locks.holders a h.holder h.there

    held : holder_of sh.locks.holders h.holder.attempt ≡ Some h.holder
    held = found_itself sh.locks.holders a h.holder h.there

    by_fate : KeepsOrLoses sh (shard_after sh latest r) r h.holder → HoldsShown (shard_after sh latest r) a reads writes shown ⊎ IsGone (shard_after sh latest r) a
    by_fate (inl e) = inl record {
      holder = h.holder;
      there = ap (holder_of (shard_after sh latest r).locks.holders) (sym itself) ∙ e;
      reads_same = h.reads_same;
      writes_same = h.writes_same;
      newest = newest_same sh.store (shard_after sh latest r).store reads (λ key k. locked_stays sh (holding sh o.reached) o.locked h.holder held key (read_locked h.holder key (ap (λ (keys : List Key). has_key keys key) h.reads_same ∙ k)) latest r e) ∙ h.newest;
    }
    by_fate (inr l) = inr (subst (IsGone (shard_after sh latest r)) itself l.gone)
