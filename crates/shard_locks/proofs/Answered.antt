-- An attempt that could ask for its locks is answered by the locks that it has then.
use Rattle.std.proofs.Common.{◌≡◌, ◌==◌, Bool, true, false, ◌||◌, not, List, [], ◌∷◌, length, filter, refl, sym, ap, ◌∙◌, arith}
use Rattle.std.specs.List.{list_any}
use Rattle.std.proofs.lemmas.Grind.{common_steps}
use Rattle.std.proofs.lemmas.List.Folds.{list_any-append}
use Rattle.rss_names.specs.declared.attempt.Attempt.{Attempt}
use Rattle.rss_names.specs.declared.service.Key.{Key}
use Rattle.rss_tables.specs.Attempts.{same_attempt, has_attempt, attempt_lt, with_attempt}
use Rattle.rss_tables.specs.Locks.{LockHolder, Locks, holds, is_tombstoned, is_wounded_by, wounded_by, attempts_of, with_tombs, with_holder, after_wounds, taken, after_lock}
use Rattle.shard_locks.specs.declared.answer.LockAnswer.{LockAnswer}
use Rattle.shard_locks.specs.LockView.{answer_by, wounded_at}
use Rattle.shard_locks.specs.Settled.{ones_in_way, settled, settled_answer}

-- whether an attempt is among holders
abbrev holds_in : List LockHolder → Attempt → Bool
holds_in holders a = list_any (λ (h : LockHolder). same_attempt a h.attempt) holders

same-itself : (a : Attempt) → same_attempt a a ≡ true
same-itself a = grind (arith, common_steps)

or-false : (a b : Bool) → (a || b) ≡ false → (a ≡ false) × (b ≡ false)
or-false true b e = cc
or-false false b e = (refl, e)

-- another attempt that joins does not bring this one
not_joined : (tombs : List Attempt) (b a : Attempt) → has_attempt tombs a ≡ false → same_attempt a b ≡ false → has_attempt (with_attempt tombs b) a ≡ false
not_joined tombs b a e d = go (has_attempt tombs b) refl
  where
    go : (t : Bool) → has_attempt tombs b ≡ t → has_attempt (with_attempt tombs b) a ≡ false
    go true p = rw p e
    go false p = rw p (list_any-append (same_attempt a) tombs (b ∷ []) ∙ grind (arith, common_steps, e, d))

-- nor do others
none_joined : (tombs others : List Attempt) (a : Attempt) → has_attempt tombs a ≡ false → has_attempt others a ≡ false → has_attempt (with_tombs tombs others) a ≡ false
none_joined tombs [] a e d = e
none_joined tombs (b ∷ others) a e d =
    let p = or-false (same_attempt a b) (has_attempt others a) d in
    none_joined (with_attempt tombs b) others a (not_joined tombs b a e p.0) p.1

-- an attempt does not wound itself
not_wounded : (prepared : List Attempt) (a : Attempt) (reads writes : List Key) (holders : List LockHolder) → has_attempt (attempts_of (filter (is_wounded_by prepared a reads writes) holders)) a ≡ false
not_wounded prepared a reads writes [] = refl
not_wounded prepared a reads writes (h ∷ holders) = go (is_wounded_by prepared a reads writes h) refl (same_attempt a h.attempt) refl (not_wounded prepared a reads writes holders)
  where
    go : (w : Bool) → is_wounded_by prepared a reads writes h ≡ w → (s : Bool) → same_attempt a h.attempt ≡ s → has_attempt (attempts_of (filter (is_wounded_by prepared a reads writes) holders)) a ≡ false → has_attempt (attempts_of (filter (is_wounded_by prepared a reads writes) (h ∷ holders))) a ≡ false
    go true p true q ih = absurd (grind (arith, p, q))
    go true p false q ih = rw (p, q) ih
    go false p s q ih = rw p ih

-- one who holds nothing holds nothing among fewer
holds-fewer : (test : LockHolder → Bool) (holders : List LockHolder) (a : Attempt) → holds_in holders a ≡ false → holds_in (filter test holders) a ≡ false
holds-fewer test [] a e = refl
holds-fewer test (h ∷ holders) a e =
    let p = or-false (same_attempt a h.attempt) (holds_in holders a) e in
    go (test h) refl p.0 (holds-fewer test holders a p.1)
  where
    go : (t : Bool) → test h ≡ t → same_attempt a h.attempt ≡ false → holds_in (filter test holders) a ≡ false → holds_in (filter test (h ∷ holders)) a ≡ false
    go true q p ih = rw (q, p) ih
    go false q p ih = rw q ih

-- one who joined holds its locks
holds-joined : (holders : List LockHolder) (new : LockHolder) → holds_in (with_holder holders new) new.attempt ≡ true
holds-joined [] new = rw (same-itself new.attempt) refl
holds-joined (h ∷ holders) new = go (attempt_lt new.attempt h.attempt) refl (same_attempt new.attempt h.attempt) refl (holds-joined holders new)
  where
    go : (t : Bool) → attempt_lt new.attempt h.attempt ≡ t → (s : Bool) → same_attempt new.attempt h.attempt ≡ s → holds_in (with_holder holders new) new.attempt ≡ true → holds_in (with_holder (h ∷ holders) new) new.attempt ≡ true
    go true q s r ih = rw (q, same-itself new.attempt) refl
    go false q true r ih = rw (q, r) refl
    go false q false r ih = rw (q, r) ih

-- one that is neither tombstoned nor holding is answered by what becomes of it
settled_by : (locks : Locks) (new : LockHolder) → is_tombstoned locks new.attempt ≡ false → holds locks new.attempt ≡ false → settled_answer locks.holders new ≡ answer_by (taken locks new) new.attempt new.reads new.writes
settled_by locks new e d = go (length (ones_in_way locks.holders new) == 0) refl
  where
    go : (t : Bool) → (length (ones_in_way locks.holders new) == 0) ≡ t → settled_answer locks.holders new ≡ answer_by (taken locks new) new.attempt new.reads new.writes
    go true p = rw (p, e, holds-joined locks.holders new) refl
    go false p = rw (p, e, d) refl

settled_locks : (locks : Locks) (new : LockHolder) → ◌≡◌ {A = Locks} record { holders = settled locks.holders new; tombs = locks.tombs } (taken locks new)
settled_locks locks new = go (length (ones_in_way locks.holders new) == 0) refl
  where
    go : (t : Bool) → (length (ones_in_way locks.holders new) == 0) ≡ t → ◌≡◌ {A = Locks} record { holders = settled locks.holders new; tombs = locks.tombs } (taken locks new)
    go true p = rw p refl
    go false p = rw p refl

pub asked_answer : (locks : Locks) (prepared : List Attempt) (new : LockHolder) → is_tombstoned locks new.attempt ≡ false → holds locks new.attempt ≡ false
    → settled_answer (after_wounds locks prepared new.attempt new.reads new.writes).holders new ≡ answer_by (taken (after_wounds locks prepared new.attempt new.reads new.writes) new) new.attempt new.reads new.writes
asked_answer locks prepared new e d =
    settled_by (after_wounds locks prepared new.attempt new.reads new.writes) new
    (none_joined locks.tombs (attempts_of (wounded_by locks prepared new.attempt new.reads new.writes)) new.attempt e (not_wounded prepared new.attempt new.reads new.writes locks.holders))
    (holds-fewer (λ (h : LockHolder). not (is_wounded_by prepared new.attempt new.reads new.writes h)) locks.holders new.attempt d)

-- where it is settled by the holders left, the locks are those after the request
pub asked_locks : (locks : Locks) (prepared : List Attempt) (new : LockHolder) → is_tombstoned locks new.attempt ≡ false → holds locks new.attempt ≡ false
    → ◌≡◌ {A = Locks} record { holders = settled (after_wounds locks prepared new.attempt new.reads new.writes).holders new; tombs = (after_wounds locks prepared new.attempt new.reads new.writes).tombs } (after_lock locks prepared new)
asked_locks locks prepared new e d = rw (e, d) (settled_locks (after_wounds locks prepared new.attempt new.reads new.writes) new)

asked_taken : (locks : Locks) (prepared : List Attempt) (new : LockHolder) → is_tombstoned locks new.attempt ≡ false → holds locks new.attempt ≡ false
    → after_lock locks prepared new ≡ taken (after_wounds locks prepared new.attempt new.reads new.writes) new
asked_taken locks prepared new e d = rw (e, d) refl

-- a request for locks, put together of its parts
pub asked : (locks : Locks) (prepared : List Attempt) (new : LockHolder) (wounded : List Attempt) (left : List LockHolder) (tombs : List Attempt) (holders : List LockHolder) (answer : LockAnswer)
    → is_tombstoned locks new.attempt ≡ false → holds locks new.attempt ≡ false
    → wounded ≡ attempts_of (filter (is_wounded_by prepared new.attempt new.reads new.writes) locks.holders)
    → left ≡ filter (λ (h : LockHolder). not (is_wounded_by prepared new.attempt new.reads new.writes h)) locks.holders
    → tombs ≡ with_tombs locks.tombs wounded
    → holders ≡ settled left new
    → answer ≡ settled_answer left new
    → (◌≡◌ {A = Locks} record { holders = holders; tombs = tombs } (after_lock locks prepared new)) × (answer ≡ answer_by record { holders = holders; tombs = tombs } new.attempt new.reads new.writes)
asked locks prepared new wounded left tombs holders answer e d w l t h a =
    let t' = rw w at t in
    let h' = rw l at h in
    let a' = rw l at a in
    let now : ◌≡◌ {A = Locks} record { holders = holders; tombs = tombs } (after_lock locks prepared new) = rw (t', h') (asked_locks locks prepared new e d) in
    (now, a' ∙ asked_answer locks prepared new e d ∙ ap (λ (ls : Locks). answer_by ls new.attempt new.reads new.writes) (sym (asked_taken locks prepared new e d) ∙ sym now))

-- whom one wounds that is neither tombstoned nor holding
pub wounds-those : (locks : Locks) (prepared : List Attempt) (new : LockHolder) → is_tombstoned locks new.attempt ≡ false → holds locks new.attempt ≡ false → wounded_at locks prepared new ≡ attempts_of (wounded_by locks prepared new.attempt new.reads new.writes)
wounds-those locks prepared new e d = rw (e, d) refl
