-- How the parts of a row make the reply of the tables.
use Rattle.std.proofs.Common.{◌≡◌, ◌==◌, ℕ, Bool, true, false, ◌||◌, ◌&&◌, not, List, [], ◌∷◌, ◌++◌, length, map, filter, Option, Some, None, is_some, refl, sym, ap, ◌∙◌, arith}
use Rattle.std.specs.List.{list_any}
use Rattle.std.proofs.lemmas.Grind.{common_steps}
use Rattle.std.proofs.lemmas.List.Folds.{list_any-append}
use Rattle.rss_names.specs.declared.attempt.Attempt.{Attempt}
use Rattle.rss_names.specs.declared.service.Key.{Key}
use Rattle.rss_wire.specs.declared.messages.Outcome.{Outcome}
use Rattle.rss_tables.specs.Attempts.{same_attempt, has_attempt, attempt_lt, with_attempt}
use Rattle.rss_tables.specs.Locks.{Locks, holds, is_tombstoned, with_tomb}
use Rattle.rss_tables.specs.Prepared.{PreparedWriter, prepared_of, with_prepared, without_prepared, blocking, named_blocking}
use Rattle.rss_tables.specs.ShardRow.{Shard, lock_reply, commits, tombstones}
use Rattle.shard_locks.specs.LockView.{answer_by}
use Rattle.txn_shard.specs.Parts.{reply_of}
use Rattle.txn_shard.proofs.Applied.{can-apply}

-- the answer to a request for locks as a reply
pub lock-answered : (sh : Shard) (attempt : Attempt) (reads writes : List Key) → reply_of (answer_by sh.locks attempt reads writes) sh.store reads ≡ lock_reply sh attempt reads writes
lock-answered sh attempt reads writes = go (is_tombstoned sh.locks attempt) refl (holds sh.locks attempt) refl
  where
    go : (t : Bool) → is_tombstoned sh.locks attempt ≡ t → (h : Bool) → holds sh.locks attempt ≡ h → reply_of (answer_by sh.locks attempt reads writes) sh.store reads ≡ lock_reply sh attempt reads writes
    go true p h q = rw p refl
    go false p true q = rw (p, q) refl
    go false p false q = rw (p, q) refl

same-itself : (a : Attempt) → same_attempt a a ≡ true
same-itself a = grind (arith, common_steps)

-- an attempt that was not prepared and is now has the new entry
pub prepared-now : (ps : List PreparedWriter) (new : PreparedWriter) → prepared_of ps new.attempt ≡ None → prepared_of (with_prepared ps new) new.attempt ≡ Some new
prepared-now [] new n = rw (same-itself new.attempt) refl
prepared-now (p ∷ ps) new n = go (attempt_lt new.attempt p.attempt) refl (same_attempt new.attempt p.attempt) refl (prepared-now ps new)
  where
    go : (b : Bool) → attempt_lt new.attempt p.attempt ≡ b → (s : Bool) → same_attempt new.attempt p.attempt ≡ s → (prepared_of ps new.attempt ≡ None → prepared_of (with_prepared ps new) new.attempt ≡ Some new) → prepared_of (with_prepared (p ∷ ps) new) new.attempt ≡ Some new
    go true q s r ih = rw (q, same-itself new.attempt) refl
    go false q true r ih = absurd (let x = rw r at n in cc)
    go false q false r ih = rw (q, r) (ih (rw r at n))

-- taking away one that is not prepared takes nothing away
none-left : (ps : List PreparedWriter) (a : Attempt) → prepared_of ps a ≡ None → without_prepared ps a ≡ ps
none-left [] a n = refl
none-left (p ∷ ps) a n = go (same_attempt a p.attempt) refl (none-left ps a)
  where
    go : (b : Bool) → same_attempt a p.attempt ≡ b → (prepared_of ps a ≡ None → without_prepared ps a ≡ ps) → without_prepared (p ∷ ps) a ≡ p ∷ ps
    go true q ih = absurd (let x = rw q at n in cc)
    go false q ih = rw q (ap (λ (l : List PreparedWriter). p ∷ l) (ih (rw q at n)))

-- one that is not prepared is tombstoned alone
pub uncommitted : (sh new : Shard) (attempt : Attempt) (time : ℕ) → prepared_of sh.prepared attempt ≡ None → new ≡ record sh { locks = with_tomb sh.locks attempt; prepared = without_prepared sh.prepared attempt } → new ≡ tombstones (commits sh attempt time (prepared_of sh.prepared attempt)) attempt
uncommitted sh new attempt time n e = e ∙ rw (n, none-left sh.prepared attempt n) refl

-- an attempt that joined is there
pub joined-now : (attempts : List Attempt) (a : Attempt) → has_attempt (with_attempt attempts a) a ≡ true
joined-now attempts a = go (has_attempt attempts a) refl
  where
    or-true : (b : Bool) → (b || true) ≡ true
    or-true true = refl
    or-true false = refl

    go : (b : Bool) → has_attempt attempts a ≡ b → has_attempt (with_attempt attempts a) a ≡ true
    go true p = rw p p
    go false p = rw p (list_any-append (same_attempt a) attempts (a ∷ []) ∙ rw (same-itself a) (or-true (has_attempt attempts a)))

-- nothing blocks where nobody is named
pub none-named : (ps : List PreparedWriter) → (length (named_blocking ps) == 0) ≡ (length ps == 0)
none-named [] = refl
none-named (p ∷ ps) = grind (arith, common_steps)

pub ruleset answered = (lock-answered, prepared-now, joined-now, none-named, can-apply)
