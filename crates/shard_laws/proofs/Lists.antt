-- The tables' lists of holders and of prepared writers are entries of attempts.
use Rattle.std.proofs.Common.{◌≡◌, ℕ, Bool, true, false, List, [], ◌∷◌, ◌++◌, Option, Some, None, is_some, refl, ap, ◌∙◌}
use Rattle.rss_names.specs.declared.attempt.Attempt.{Attempt}
use Rattle.rss_tables.specs.Attempts.{same_attempt, attempt_lt, has_attempt, with_attempt}
use Rattle.rss_tables.specs.Locks.{LockHolder, coordinator_in, with_holder, with_tombs}
use Rattle.rss_tables.specs.Prepared.{PreparedWriter, prepared_of, with_prepared}
use Rattle.std.proofs.lemmas.Bool.{or_left, or_right}
use Rattle.std.specs.List.{list_any}
use Rattle.std.specs.Prelude.{◌||◌}
use Rattle.std.proofs.lemmas.List.Folds.{list_any-append}
use Rattle.std.proofs.lemmas.Bool.{cond_both}
use Rattle.shard_laws.specs.Entries.{entry_of, held_by, prepared_by, holder_of}
use Rattle.shard_laws.proofs.Entries.{with_entry, same_itself, same_is}

pub prepared_is : (ps : List PreparedWriter) (a : Attempt) → prepared_of ps a ≡ entry_of prepared_by ps a
prepared_is [] a = refl
prepared_is (p ∷ ps) a = go (same_attempt a p.attempt) refl (prepared_is ps a)
  where
    go : (b : Bool) → same_attempt a p.attempt ≡ b → prepared_of ps a ≡ entry_of prepared_by ps a → prepared_of (p ∷ ps) a ≡ entry_of prepared_by (p ∷ ps) a
    go true e ih = rw e refl
    go false e ih = rw e ih

pub with_prepared_is : (ps : List PreparedWriter) (new : PreparedWriter) → with_prepared ps new ≡ with_entry prepared_by ps new
with_prepared_is [] new = refl
with_prepared_is (p ∷ ps) new = go (attempt_lt new.attempt p.attempt) refl (with_prepared_is ps new)
  where
    go : (b : Bool) → attempt_lt new.attempt p.attempt ≡ b → with_prepared ps new ≡ with_entry prepared_by ps new → with_prepared (p ∷ ps) new ≡ with_entry prepared_by (p ∷ ps) new
    go true e ih = rw e refl
    go false e ih = rw e (ap (λ (l : List PreparedWriter). p ∷ l) ih)

pub with_holder_is : (hs : List LockHolder) (new : LockHolder) → with_holder hs new ≡ with_entry held_by hs new
with_holder_is [] new = refl
with_holder_is (h ∷ hs) new = go (attempt_lt new.attempt h.attempt) refl (with_holder_is hs new)
  where
    go : (b : Bool) → attempt_lt new.attempt h.attempt ≡ b → with_holder hs new ≡ with_entry held_by hs new → with_holder (h ∷ hs) new ≡ with_entry held_by (h ∷ hs) new
    go true e ih = rw e refl
    go false e ih = rw e (ap (λ (l : List LockHolder). h ∷ l) ih)

pub holds_is : (hs : List LockHolder) (a : Attempt) → list_any (λ (h : LockHolder). same_attempt a h.attempt) hs ≡ is_some (holder_of hs a)
holds_is [] a = refl
holds_is (h ∷ hs) a = go (same_attempt a h.attempt) refl (holds_is hs a)
  where
    go : (b : Bool) → same_attempt a h.attempt ≡ b → list_any (λ (x : LockHolder). same_attempt a x.attempt) hs ≡ is_some (holder_of hs a) → list_any (λ (x : LockHolder). same_attempt a x.attempt) (h ∷ hs) ≡ is_some (holder_of (h ∷ hs) a)
    go true e ih = rw e refl
    go false e ih = rw e ih

-- the coordinator of a holder that was found
abbrev pub coordinator_of : Option LockHolder → Option ℕ
coordinator_of None = None
coordinator_of (Some h) = Some h.coordinator

pub coordinator_is : (hs : List LockHolder) (a : Attempt) → coordinator_in hs a ≡ coordinator_of (holder_of hs a)
coordinator_is [] a = refl
coordinator_is (h ∷ hs) a = go (same_attempt a h.attempt) refl (coordinator_is hs a)
  where
    go : (b : Bool) → same_attempt a h.attempt ≡ b → coordinator_in hs a ≡ coordinator_of (holder_of hs a) → coordinator_in (h ∷ hs) a ≡ coordinator_of (holder_of (h ∷ hs) a)
    go true e ih = rw e refl
    go false e ih = rw e ih

-- none is held where an attempt does not hold
pub not_some : {A : Type 0} (o : Option A) → is_some o ≡ false → o ≡ None
not_some None e = refl
not_some {A} (Some x) e = absurd (let y : true ≡ false = e in cc)

-- an attempt that joined a list is there, and the others stay
pub joined : (ts : List Attempt) (a : Attempt) → has_attempt (with_attempt ts a) a ≡ true
joined ts a = go (has_attempt ts a) refl
  where
    go : (b : Bool) → has_attempt ts a ≡ b → has_attempt (with_attempt ts a) a ≡ true
    go true e = rw e e
    go false e =
        let there : has_attempt (ts ++ a ∷ []) a ≡ true = list_any-append (same_attempt a) ts (a ∷ []) ∙ or_right (has_attempt ts a) (same_attempt a a || false) (or_left (same_attempt a a) false (same_itself a)) in
        rw e there

pub stays_joined : (ts : List Attempt) (a b : Attempt) → has_attempt ts b ≡ true → has_attempt (with_attempt ts a) b ≡ true
stays_joined ts a b h =
    cond_both (has_attempt ts a) ts (ts ++ a ∷ []) (λ (l : List Attempt). has_attempt l b ≡ true) (λ e. h)
    (λ e. list_any-append (same_attempt b) ts (a ∷ []) ∙ or_left (has_attempt ts b) (list_any (same_attempt b) (a ∷ [])) h)

pub stays_buried : (ts more : List Attempt) (b : Attempt) → has_attempt ts b ≡ true → has_attempt (with_tombs ts more) b ≡ true
stays_buried ts [] b h = h
stays_buried ts (a ∷ more) b h = stays_buried (with_attempt ts a) more b (stays_joined ts a b h)

-- who is buried is there
pub buried : (ts more : List Attempt) (b : Attempt) → has_attempt more b ≡ true → has_attempt (with_tombs ts more) b ≡ true
buried ts [] b h = absurd (let x : false ≡ true = h in cc)
buried ts (a ∷ more) b h = go (same_attempt b a) refl (buried (with_attempt ts a) more b)
  where
    go : (t : Bool) → same_attempt b a ≡ t → (has_attempt more b ≡ true → has_attempt (with_tombs (with_attempt ts a) more) b ≡ true) → has_attempt (with_tombs ts (a ∷ more)) b ≡ true
    go true e ih = stays_buried (with_attempt ts a) more b (rw (same_is b a e) (joined ts a))
    go false e ih = ih (rw e at h)
