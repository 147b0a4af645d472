-- Small laws of the shard's table, each of every shard and every request.
use Rattle.std.proofs.Common.{◌≡◌, ℕ, ◌<◌, ◌≤◌, max, ◌+◌, Bool, true, false, List, [], ◌∷◌, ◌++◌, Option, Some, None, refl, ap, sym, ◌∙◌, arith}
use Rattle.std.proofs.lemmas.Grind.{common_steps}
use Rattle.std.proofs.lemmas.Bool.Decides.{nat_tests}
use Rattle.rss_names.specs.declared.attempt.Attempt.{Attempt}
use Rattle.rss_names.specs.declared.service.Key.{Key}
use Rattle.rss_wire.specs.declared.messages.Outcome.{Outcome}
use Rattle.rss_wire.specs.declared.messages.Request.{Request}
use Rattle.rss_wire.specs.declared.messages.Request.TheVariants.{Lock, Prepare, Decide, Commit, Abort, Inquire, Release, Snapshot, Fix, Ask, Stamp, Store}
use Rattle.rss_wire.specs.declared.messages.Reply.TheVariants as reply
use Rattle.rss_tables.specs.Attempts.{same_attempt, has_attempt, with_attempt}
use Rattle.rss_tables.specs.Locks.{LockHolder, is_tombstoned, is_wounded_by}
use Rattle.rss_tables.specs.Prepared.{PreparedWriter, must_wait_for}
use Rattle.rss_tables.specs.ShardRow.{Shard, decision_in, keeps_decision, shard_after, shard_reply}

-- a decision kept is found again behind others
pub decision-stays : (ds : List (Attempt × Outcome)) (a : Attempt) (o : Outcome) (d : Attempt × Outcome) → decision_in ds a ≡ Some o → decision_in (ds ++ d ∷ []) a ≡ Some o
decision-stays [] a o d h = absurd (grind (arith, common_steps, h))
decision-stays (e ∷ ds) a o d h = let r = decision-stays ds a o d in grind (arith, common_steps, r, h)

-- the first decision kept for an attempt is never replaced
pub first-decision : (sh : Shard) (latest : ℕ) (r : Request) (a : Attempt) (o : Outcome) → decision_in sh.decisions a ≡ Some o → decision_in (shard_after sh latest r).decisions a ≡ Some o
unfolding shard_after
first-decision sh latest (Lock attempt coordinator reads writes) a o h = h
first-decision sh latest (Prepare attempt least earliest_end writes) a o h = grind (arith, common_steps, h)
first-decision sh latest (Decide attempt commit time) a o h = let s = decision-stays sh.decisions a o in grind (arith, common_steps, h, s)
first-decision sh latest (Commit attempt commit_time) a o h = grind (arith, common_steps, h)
first-decision sh latest (Abort attempt) a o h = h
first-decision sh latest (Inquire attempt) a o h = h
first-decision sh latest (Release attempt time last) a o h = let s = decision-stays sh.decisions a o in grind (arith, common_steps, h, s)
first-decision sh latest (Snapshot read_time least keys skip) a o h = grind (arith, common_steps, h)
first-decision sh latest (Fix deps) a o h = h
first-decision sh latest (Ask key) a o h = h
first-decision sh latest (Stamp key) a o h = h
first-decision sh latest (Store key value stamp writer) a o h = h

-- the greatest time at which a shard was read or written never falls
pub floor-rises : (sh : Shard) (latest : ℕ) (r : Request) → sh.floor ≤ (shard_after sh latest r).floor
unfolding shard_after
floor-rises sh latest (Lock attempt coordinator reads writes) = omega arith
floor-rises sh latest (Prepare attempt least earliest_end writes) = grind (arith, common_steps)
floor-rises sh latest (Decide attempt commit time) = grind (arith, common_steps)
floor-rises sh latest (Commit attempt commit_time) = grind (arith, common_steps)
floor-rises sh latest (Abort attempt) = omega arith
floor-rises sh latest (Inquire attempt) = omega arith
floor-rises sh latest (Release attempt time last) = grind (arith, common_steps)
floor-rises sh latest (Snapshot read_time least keys skip) = grind (arith, common_steps)
floor-rises sh latest (Fix deps) = omega arith
floor-rises sh latest (Ask key) = omega arith
floor-rises sh latest (Stamp key) = omega arith
floor-rises sh latest (Store key value stamp writer) = omega arith

-- a writer that a snapshot passes by cannot end before the read time, and was prepared above what the reader has seen
pub passed-by-safely : (p : PreparedWriter) (read_time least : ℕ) → must_wait_for read_time least true p ≡ false → (read_time < p.earliest_end) × (least < p.prepare_time)
passed-by-safely p read_time least h = grind (arith, nat_tests, common_steps, h)

-- a snapshot that skips nothing passes nobody by
pub waits-for-all : (p : PreparedWriter) (read_time least : ℕ) → must_wait_for read_time least false p ≡ true
waits-for-all p read_time least = refl

-- a tombstoned attempt that asks for locks is told that it was wounded
pub tombstoned-told : (sh : Shard) (latest : ℕ) (attempt : Attempt) (coordinator : ℕ) (reads writes : List Key) → is_tombstoned sh.locks attempt ≡ true → shard_reply sh latest (Lock attempt coordinator reads writes) ≡ reply.Wounded
unfolding shard_reply shard_after
tombstoned-told sh latest attempt coordinator reads writes h = grind (arith, common_steps, h)

-- a prepared attempt is never wounded
pub prepared-stays : (prepared : List Attempt) (attempt : Attempt) (reads writes : List Key) (h : LockHolder) → has_attempt prepared h.attempt ≡ true → is_wounded_by prepared attempt reads writes h ≡ false
prepared-stays prepared attempt reads writes h e = grind (arith, common_steps, e)

-- an attempt that has released is told so again, and nothing changes
pub released-again : (sh : Shard) (latest : ℕ) (attempt : Attempt) (time : ℕ) (last : Bool) → has_attempt sh.released attempt ≡ true → (shard_after sh latest (Release attempt time last) ≡ sh) × (shard_reply sh latest (Release attempt time last) ≡ reply.Released)
unfolding shard_reply shard_after
released-again sh latest attempt time last h = grind (arith, common_steps, h)
