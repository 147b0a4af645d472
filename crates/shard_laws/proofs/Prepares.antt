-- Entries of prepared attempts: where they come from, when they go, and what is told of them.
use Rattle.std.proofs.Common.{◌≡◌, ◌⊎◌, inl, inr, ℕ, true, List, Some, sym, ap, ◌∙◌, subst}
use Rattle.std.proofs.lemmas.Bool.{true≢false}
use Rattle.rss_names.specs.declared.attempt.Attempt.{Attempt}
use Rattle.rss_names.specs.declared.service.Key.{Key}
use Rattle.rss_wire.specs.declared.messages.Request.{Request}
use Rattle.rss_wire.specs.declared.messages.Request.TheVariants.{Lock, Prepare, Decide, Commit, Abort, Inquire, Release, Snapshot, Fix, Ask, Stamp, Store}
use Rattle.rss_wire.specs.declared.messages.Reply.TheVariants as reply
use Rattle.rss_tables.specs.Prepared.{PreparedWriter, prepared_of}
use Rattle.rss_tables.specs.ShardRow.{Shard, shard_after, shard_reply}
use Rattle.shard_laws.specs.Served.{IsReached}
use Rattle.shard_laws.specs.Locked.{IsGone}
use Rattle.shard_laws.specs.Changes.{settles, IsSettled, IsPreparedBy}
use Rattle.shard_laws.specs.Fitting.{IsPreparedAt}
use Rattle.shard_laws.proofs.Entries.{same_is}
use Rattle.shard_laws.proofs.Laters.{prepared_by_request, prepared_till_settled}
use Rattle.shard_laws.proofs.Fits.{prepared_told as told}
use Rattle.shard_laws.proofs.Found.{prepared_attempt, prepared_itself}

-- who is prepared after a request was so before, or is prepared by it
pub prepare_from : (sh : Shard) (latest : ℕ) (r : Request) → IsReached sh → (p : PreparedWriter) → prepared_of (shard_after sh latest r).prepared p.attempt ≡ Some p → (prepared_of sh.prepared p.attempt ≡ Some p) ⊎ IsPreparedBy sh latest r p
prepare_from sh latest r x p e = prepared_by_request sh x latest r p e

-- a request that settles an attempt is its commit or its abort
settled_by : (r : Request) (a : Attempt) → settles r a ≡ true → ((time : ℕ) × (r ≡ Commit a time)) ⊎ (r ≡ Abort a)
settled_by (Lock b coordinator reads writes) a e = absurd (true≢false (sym e))
settled_by (Prepare b least earliest_end writes) a e = absurd (true≢false (sym e))
settled_by (Decide b commit time) a e = absurd (true≢false (sym e))
settled_by (Commit b time) a e = inl (time, ap (λ (z : Attempt). Commit z time) (same_is b a e))
settled_by (Abort b) a e = inr (ap Abort (same_is b a e))
settled_by (Inquire b) a e = absurd (true≢false (sym e))
settled_by (Release b time last) a e = absurd (true≢false (sym e))
settled_by (Snapshot read_time least keys skip) a e = absurd (true≢false (sym e))
settled_by (Fix deps) a e = absurd (true≢false (sym e))
settled_by (Ask key) a e = absurd (true≢false (sym e))
settled_by (Stamp key) a e = absurd (true≢false (sym e))
settled_by (Store key value stamp writer) a e = absurd (true≢false (sym e))

-- a prepared attempt keeps its entry, or the request is its commit or its abort, and it is done with
pub entry_stays : (sh : Shard) (latest : ℕ) (r : Request) → IsReached sh → (a : Attempt) (p : PreparedWriter) → prepared_of sh.prepared a ≡ Some p → (prepared_of (shard_after sh latest r).prepared a ≡ Some p) ⊎ (IsGone (shard_after sh latest r) a × (((time : ℕ) × (r ≡ Commit a time)) ⊎ (r ≡ Abort a)))
entry_stays sh latest r x a p e = by_fate (prepared_till_settled sh x latest r p (prepared_itself sh.prepared a p e))
  where
    itself : p.attempt ≡ a
    itself = prepared_attempt sh.prepared a p e

    by_fate : (prepared_of (shard_after sh latest r).prepared p.attempt ≡ Some p) ⊎ IsSettled (shard_after sh latest r) r p.attempt → (prepared_of (shard_after sh latest r).prepared a ≡ Some p) ⊎ (IsGone (shard_after sh latest r) a × (((time : ℕ) × (r ≡ Commit a time)) ⊎ (r ≡ Abort a)))
    by_fate (inl f) = inl (ap (prepared_of (shard_after sh latest r).prepared) (sym itself) ∙ f)
    by_fate (inr s) = inr (subst (IsGone (shard_after sh latest r)) itself s.gone, settled_by r a (ap (settles r) (sym itself) ∙ s.reason))

-- who is told that it is prepared at a time is prepared at it
pub prepared_told : (sh : Shard) (latest : ℕ) (a : Attempt) (least earliest_end : ℕ) (writes : List (Key × ℕ)) (time : ℕ) → shard_reply sh latest (Prepare a least earliest_end writes) ≡ reply.Prepared time → IsPreparedAt (shard_after sh latest (Prepare a least earliest_end writes)) a time
prepared_told sh latest a least earliest_end writes time e = told sh latest a least earliest_end writes time e
