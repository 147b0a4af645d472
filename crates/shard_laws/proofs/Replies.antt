-- What the replies to a request for locks say.
use Rattle.std.proofs.Common.{◌≡◌, ◌⊎◌, inl, inr, ℕ, ◌<◌, Bool, true, false, not, ◌&&◌, ◌||◌, List, length, Option, Some, None, is_some, refl, sym, ap, ◌∙◌, arith}
use Rattle.std.specs.Prelude.{◌==◌, if◌then◌else◌}
use Rattle.std.specs.List.{filter}
use Rattle.std.proofs.lemmas.List.{length-map}
use Rattle.std.proofs.lemmas.Bool.{true≢false, or_cases, or_parts, and_cases, not-false, eqb-false}
use Rattle.rss_names.specs.declared.attempt.Attempt.{Attempt}
use Rattle.rss_names.specs.declared.service.Key.{Key}
use Rattle.rss_wire.specs.declared.messages.Holder.{Holder}
use Rattle.rss_wire.specs.declared.messages.Reply.{Reply}
use Rattle.rss_wire.specs.declared.messages.Reply.TheVariants as reply
use Rattle.rss_wire.specs.declared.messages.Request.TheVariants.{Lock}
use Rattle.rss_wire.specs.declared.messages.Version.{Version}
use Rattle.rss_tables.specs.Attempts.{has_attempt, is_younger}
use Rattle.rss_tables.specs.Locks.{LockHolder, Locks, holds, is_tombstoned, conflicts, in_way_of, is_wounded_by, with_holder, after_wounds, after_lock, taken, named_holders}
use Rattle.rss_tables.specs.Prepared.{PreparedWriter, prepared_of, prepared_attempts}
use Rattle.rss_tables.specs.Versions.{newest_of}
use Rattle.rss_tables.specs.ShardRow.{Shard, lock_reply, shard_after, shard_reply}
use Rattle.shard_laws.specs.Entries.{held_by, prepared_by, holder_of}
use Rattle.shard_laws.specs.Replies.{WaitsFor, IsShown}
use Rattle.shard_laws.proofs.Entries.{named_is, same_itself}
use Rattle.shard_laws.proofs.Lists.{prepared_is, holds_is}
use Rattle.shard_laws.proofs.Excludes.{holder_put, is_spared}
use Rattle.shard_laws.proofs.Holding.{Holding, not_holding}
use Rattle.shard_laws.proofs.Gone.{none_kept}
use Rattle.shard_laws.proofs.Fates.{asked_for, AskedFor}

-- what a reply to wait says of the shard that gives it
pub record Waiting (w : Shard) (attempt : Attempt) (reads writes : List Key) (holders : List Holder) : Type 0 where
  pub untombstoned : is_tombstoned w.locks attempt ≡ false
  pub free : holds w.locks attempt ≡ false
  pub exactly : holders ≡ named_holders (in_way_of w.locks attempt reads writes)

lock_waits : (w : Shard) (attempt : Attempt) (reads writes : List Key) (holders : List Holder) → lock_reply w attempt reads writes ≡ reply.Wait holders → Waiting w attempt reads writes holders
lock_waits w attempt reads writes holders e = by_tests (is_tombstoned w.locks attempt) refl (holds w.locks attempt) refl e
  where
    by_tests : (b : Bool) → is_tombstoned w.locks attempt ≡ b → (c : Bool) → holds w.locks attempt ≡ c → (if b then reply.Wounded else (if c then reply.Granted (newest_of w.store reads) else reply.Wait (named_holders (in_way_of w.locks attempt reads writes)))) ≡ reply.Wait holders → Waiting w attempt reads writes holders
    by_tests true f c g e = absurd (let x : ◌≡◌ {A = Reply} reply.Wounded (reply.Wait holders) = e in cc)
    by_tests false f true g e = absurd (let x : ◌≡◌ {A = Reply} (reply.Granted (newest_of w.store reads)) (reply.Wait holders) = e in cc)
    by_tests false f false g e = record { untombstoned = f; free = g; exactly = (let x : ◌≡◌ {A = Reply} (reply.Wait (named_holders (in_way_of w.locks attempt reads writes))) (reply.Wait holders) = e in cc) }

lock_granted : (w : Shard) (attempt : Attempt) (reads writes : List Key) (shown : List (Key × Version)) → lock_reply w attempt reads writes ≡ reply.Granted shown → (holds w.locks attempt ≡ true) × (shown ≡ newest_of w.store reads)
lock_granted w attempt reads writes shown e = by_tests (is_tombstoned w.locks attempt) refl (holds w.locks attempt) refl e
  where
    by_tests : (b : Bool) → is_tombstoned w.locks attempt ≡ b → (c : Bool) → holds w.locks attempt ≡ c → (if b then reply.Wounded else (if c then reply.Granted (newest_of w.store reads) else reply.Wait (named_holders (in_way_of w.locks attempt reads writes)))) ≡ reply.Granted shown → (holds w.locks attempt ≡ true) × (shown ≡ newest_of w.store reads)
    by_tests true f c g e = absurd (let x : ◌≡◌ {A = Reply} reply.Wounded (reply.Granted shown) = e in cc)
    by_tests false f true g e = (g, let x : ◌≡◌ {A = Reply} (reply.Granted (newest_of w.store reads)) (reply.Granted shown) = e in cc)
    by_tests false f false g e = absurd (let x : ◌≡◌ {A = Reply} (reply.Wait (named_holders (in_way_of w.locks attempt reads writes))) (reply.Granted shown) = e in cc)

some_there : {A : Type 0} (o : Option A) → is_some o ≡ true → (x : A) × (o ≡ Some x)
some_there None e = absurd (true≢false (sym e))
some_there (Some x) e = (x, refl)

pub granted : (sh : Shard) (latest : ℕ) (attempt : Attempt) (coordinator : ℕ) (reads writes : List Key) (shown : List (Key × Version)) → shard_reply sh latest (Lock attempt coordinator reads writes) ≡ reply.Granted shown → IsShown sh (shard_after sh latest (Lock attempt coordinator reads writes)) attempt reads shown
unfolding shard_reply shard_after
granted sh latest attempt coordinator reads writes shown e =
    let w = shard_after sh latest (Lock attempt coordinator reads writes) in
    let p = lock_granted (shard_after sh latest (Lock attempt coordinator reads writes)) attempt reads writes shown e in
    let q = some_there (holder_of (shard_after sh latest (Lock attempt coordinator reads writes)).locks.holders attempt) (sym (holds_is (shard_after sh latest (Lock attempt coordinator reads writes)).locks.holders attempt) ∙ p.0) in
    record { holder = q.0; holds = q.1; newest = p.1 }

-- who is spared is older or prepared, if in the way
spared_is : (ps : List PreparedWriter) (attempt : Attempt) (reads writes : List Key) (h : LockHolder) → is_wounded_by (prepared_attempts ps) attempt reads writes h ≡ false → conflicts attempt reads writes h ≡ true → (is_younger h.attempt attempt ≡ false) ⊎ (is_some (prepared_of ps h.attempt) ≡ true)
spared_is ps attempt reads writes h e c = by_first (and_cases (conflicts attempt reads writes h && is_younger h.attempt attempt) (not (has_attempt (prepared_attempts ps) h.attempt)) e)
  where
    by_second : (conflicts attempt reads writes h ≡ false) ⊎ (is_younger h.attempt attempt ≡ false) → (is_younger h.attempt attempt ≡ false) ⊎ (is_some (prepared_of ps h.attempt) ≡ true)
    by_second (inl f) = absurd (true≢false (sym c ∙ f))
    by_second (inr f) = inl f

    by_first : ((conflicts attempt reads writes h && is_younger h.attempt attempt) ≡ false) ⊎ (not (has_attempt (prepared_attempts ps) h.attempt) ≡ false) → (is_younger h.attempt attempt ≡ false) ⊎ (is_some (prepared_of ps h.attempt) ≡ true)
    by_first (inl f) = by_second (and_cases (conflicts attempt reads writes h) (is_younger h.attempt attempt) f)
    by_first (inr f) = inr (ap is_some (prepared_is ps h.attempt) ∙ sym (named_is prepared_by ps h.attempt) ∙ not-false (has_attempt (prepared_attempts ps) h.attempt) f)

-- the locks after a request that is told to wait
waits_locks : (sh : Shard) (new : LockHolder) (holders : List Holder) → Holding sh → (l : Locks) → l ≡ after_lock sh.locks (prepared_attempts sh.prepared) new → is_tombstoned l new.attempt ≡ false → holds l new.attempt ≡ false → holders ≡ named_holders (in_way_of l new.attempt new.reads new.writes) → WaitsFor sh (record sh { locks = l }) new.attempt new.reads new.writes holders
waits_locks sh new holders k l e t n x = by_test (is_tombstoned sh.locks new.attempt || holds sh.locks new.attempt) refl e
  where
    ps : List Attempt
    ps = prepared_attempts sh.prepared

    was : (b : Bool) → (is_tombstoned sh.locks new.attempt ≡ true) ⊎ (holds sh.locks new.attempt ≡ true) → l ≡ sh.locks → ⊥
    was b (inl f) g = true≢false (sym f ∙ ap (λ (z : Locks). is_tombstoned z new.attempt) (sym g) ∙ t)
    was b (inr f) g = true≢false (sym f ∙ ap (λ (z : Locks). holds z new.attempt) (sym g) ∙ n)

    none : holds sh.locks new.attempt ≡ false → holder_of (filter (is_spared (prepared_attempts sh.prepared) new.attempt new.reads new.writes) sh.locks.holders) new.attempt ≡ None
    none f = none_kept held_by (is_spared (prepared_attempts sh.prepared) new.attempt new.reads new.writes) sh.locks.holders new.attempt (not_holding sh new.attempt f)

    by_way : holds sh.locks new.attempt ≡ false → l ≡ taken (after_wounds sh.locks (prepared_attempts sh.prepared) new.attempt new.reads new.writes) new → (c : Bool) → (length (in_way_of (after_wounds sh.locks (prepared_attempts sh.prepared) new.attempt new.reads new.writes) new.attempt new.reads new.writes) == 0) ≡ c → l ≡ (if c then record (after_wounds sh.locks (prepared_attempts sh.prepared) new.attempt new.reads new.writes) { holders = with_holder (after_wounds sh.locks (prepared_attempts sh.prepared) new.attempt new.reads new.writes).holders new } else after_wounds sh.locks (prepared_attempts sh.prepared) new.attempt new.reads new.writes) → WaitsFor sh (record sh { locks = l }) new.attempt new.reads new.writes holders
    by_way f g true c j =
        let p : holder_of l.holders new.attempt ≡ Some new = ap (λ (z : Locks). holder_of z.holders new.attempt) j ∙ holder_put (filter (is_spared (prepared_attempts sh.prepared) new.attempt new.reads new.writes) sh.locks.holders) new new.attempt (none f) ∙ ap (λ (b : Bool). if b then Some new else holder_of (filter (is_spared (prepared_attempts sh.prepared) new.attempt new.reads new.writes) sh.locks.holders) new.attempt) (same_itself new.attempt) in
        absurd (true≢false (sym (holds_is l.holders new.attempt ∙ ap is_some p) ∙ n))
    by_way f g false c j = record {
      exactly = x;
      some = more (length holders) (ap (λ (z : List Holder). length z) x ∙ length-map (in_way_of l new.attempt new.reads new.writes) _ ∙ ap (λ (z : Locks). length (in_way_of z new.attempt new.reads new.writes)) j);
      left = λ h q r. by_case h r (asked_for sh.locks (prepared_attempts sh.prepared) new k.locks (not_holding sh new.attempt f) h.attempt h (ap (λ (z : Locks). holder_of z.holders h.attempt) (sym g) ∙ q)) q;
    }
      where
        more : (m : ℕ) → m ≡ length (in_way_of (after_wounds sh.locks (prepared_attempts sh.prepared) new.attempt new.reads new.writes) new.attempt new.reads new.writes) → 0 < m
        more m i = let z = eqb-false (length (in_way_of (after_wounds sh.locks (prepared_attempts sh.prepared) new.attempt new.reads new.writes) new.attempt new.reads new.writes)) 0 c in grind (arith, i, z)

        by_case : (h : LockHolder) → conflicts new.attempt new.reads new.writes h ≡ true → (h ≡ new) ⊎ AskedFor sh.locks (prepared_attempts sh.prepared) new h → holder_of l.holders h.attempt ≡ Some h → (is_younger h.attempt new.attempt ≡ false) ⊎ (is_some (prepared_of sh.prepared h.attempt) ≡ true)
        by_case h r (inl i) q = absurd (true≢false (sym (holds_is l.holders new.attempt ∙ ap (λ (z : LockHolder). is_some (holder_of l.holders z.attempt)) (sym i) ∙ ap is_some q) ∙ n))
        by_case h r (inr a) q = spared_is sh.prepared new.attempt new.reads new.writes h a.unwounded r

    by_test : (b : Bool) → (is_tombstoned sh.locks new.attempt || holds sh.locks new.attempt) ≡ b → l ≡ (if b then sh.locks else taken (after_wounds sh.locks (prepared_attempts sh.prepared) new.attempt new.reads new.writes) new) → WaitsFor sh (record sh { locks = l }) new.attempt new.reads new.writes holders
    by_test true f g = absurd (was true (or_cases (is_tombstoned sh.locks new.attempt) (holds sh.locks new.attempt) f) g)
    by_test false f g = by_way (or_parts (is_tombstoned sh.locks new.attempt) (holds sh.locks new.attempt) f).1 g (length (in_way_of (after_wounds sh.locks (prepared_attempts sh.prepared) new.attempt new.reads new.writes) new.attempt new.reads new.writes) == 0) refl g

pub waits : (sh : Shard) (latest : ℕ) (attempt : Attempt) (coordinator : ℕ) (reads writes : List Key) (holders : List Holder) → Holding sh → shard_reply sh latest (Lock attempt coordinator reads writes) ≡ reply.Wait holders → WaitsFor sh (shard_after sh latest (Lock attempt coordinator reads writes)) attempt reads writes holders
unfolding shard_reply shard_after
waits sh latest attempt coordinator reads writes holders k e =
    let new : LockHolder = record { attempt = attempt; coordinator = coordinator; reads = reads; writes = writes } in
    let p = lock_waits (shard_after sh latest (Lock attempt coordinator reads writes)) attempt reads writes holders e in
    waits_locks sh record { attempt = attempt; coordinator = coordinator; reads = reads; writes = writes } holders k (after_lock sh.locks (prepared_attempts sh.prepared) record { attempt = attempt; coordinator = coordinator; reads = reads; writes = writes }) refl p.untombstoned p.free p.exactly
