-- The tables' words for those who hold locks are those for any entries of attempts.
use Rattle.std.proofs.Common.{◌≡◌, ℕ, suc, zero, ◌<◌, ◌≤◌, Bool, true, false, ◌&&◌, ◌||◌, not, List, [], ◌∷◌, length, map, filter, get_or, Option, Some, None, is_some, if◌then◌else◌, Bor, arith, refl, sym, ap, ◌∙◌}
use Rattle.std.specs.List.{list_any, list_all}
use Rattle.std.specs.Option.{option_map, option_copied}
use Rattle.std.proofs.lemmas.Grind.{common_steps}
use Rattle.std.proofs.lemmas.Bool.{false≢true}
use Rattle.rss_names.specs.declared.attempt.Attempt.{Attempt}
use Rattle.rss_names.specs.declared.service.Key.{Key}
use Rattle.rss_wire.specs.declared.messages.Holder.{Holder}
use Rattle.rss_tables.specs.Attempts.{same_attempt, has_attempt, attempt_lt, is_younger}
use Rattle.rss_tables.specs.Locks.{LockHolder, conflicts, is_wounded_by, attempts_of, named_holders, coordinator_in, with_holder}
use Rattle.attempt_index.specs.Ascending.{ascends}
use Rattle.attempt_index.specs.Entries.{with_entry, without_entry}
use Rattle.attempt_index.proofs.Entries.{none-there, later-there, entry-itself}
use Rattle.attempt_index.proofs.Indexed.{attempts-apart, attempts-turned, same_attempt-Decides}
use Rattle.attempt_index.proofs.Searching.{both}
use Rattle.attempt_index.proofs.Sieve.{filters-agree}
use Rattle.shard_locks.specs.Holders.{attempt_of, holder_of, without_holders, named_of, is_open}

pub with-is : (hs : List LockHolder) (new : LockHolder) → with_holder hs new ≡ with_entry attempt_of hs new
with-is [] new = refl
with-is (h ∷ hs) new = go (attempt_lt new.attempt h.attempt) refl (with-is hs new)
  where
    go : (b : Bool) → attempt_lt new.attempt h.attempt ≡ b → with_holder hs new ≡ with_entry attempt_of hs new → with_holder (h ∷ hs) new ≡ with_entry attempt_of (h ∷ hs) new
    go true e ih = rw e refl
    go false e ih = rw e (ap (λ (l : List LockHolder). h ∷ l) ih)

-- who holds locks
pub holds-is : (hs : List LockHolder) (a : Attempt) → is_some (holder_of hs a) ≡ list_any (λ (h : LockHolder). same_attempt a h.attempt) hs
holds-is [] a = refl
holds-is (h ∷ hs) a = go (same_attempt a h.attempt) refl (holds-is hs a)
  where
    go : (b : Bool) → same_attempt a h.attempt ≡ b → is_some (holder_of hs a) ≡ list_any (λ (h : LockHolder). same_attempt a h.attempt) hs → is_some (holder_of (h ∷ hs) a) ≡ list_any (λ (h : LockHolder). same_attempt a h.attempt) (h ∷ hs)
    go true e ih = rw e refl
    go false e ih = rw e ih

pub coordinator-is : (hs : List LockHolder) (a : Attempt) → option_map (λ (h : LockHolder). h.coordinator) (holder_of hs a) ≡ coordinator_in hs a
coordinator-is [] a = refl
coordinator-is (h ∷ hs) a = go (same_attempt a h.attempt) refl (coordinator-is hs a)
  where
    go : (b : Bool) → same_attempt a h.attempt ≡ b → option_map (λ (h : LockHolder). h.coordinator) (holder_of hs a) ≡ coordinator_in hs a → option_map (λ (h : LockHolder). h.coordinator) (holder_of (h ∷ hs) a) ≡ coordinator_in (h ∷ hs) a
    go true e ih = rw e refl
    go false e ih = rw e ih

-- one who holds no locks is none of the holders
pub not-itself : (hs : List LockHolder) (a : Attempt) → holder_of hs a ≡ None → (i : ℕ) (d : LockHolder) → i < length hs → same_attempt a (get_or hs i d).attempt ≡ false
not-itself [] a e i d l = absurd (omega (arith, l))
not-itself (h ∷ hs) a e i d l = go (same_attempt a h.attempt) refl i l (not-itself hs a)
  where
    go : (b : Bool) → same_attempt a h.attempt ≡ b → (i : ℕ) → i < length (h ∷ hs) → (holder_of hs a ≡ None → (i : ℕ) (d : LockHolder) → i < length hs → same_attempt a (get_or hs i d).attempt ≡ false) → same_attempt a (get_or (h ∷ hs) i d).attempt ≡ false
    go true s i l ih = absurd (let x : ◌≡◌ {A = Option LockHolder} (Some h) None = rw s at e in cc)
    go false s zero l ih = s
    go false s (suc i) l ih = ih (rw s at e) i d (omega (arith, l))

-- nor of those of them that pass a test
pub none-kept : (test : LockHolder → Bool) (hs : List LockHolder) (a : Attempt) → holder_of hs a ≡ None → holder_of (filter test hs) a ≡ None
none-kept test [] a e = refl
none-kept test (h ∷ hs) a e = go (same_attempt a h.attempt) refl (test h) refl (none-kept test hs a)
  where
    go : (b : Bool) → same_attempt a h.attempt ≡ b → (t : Bool) → test h ≡ t → (holder_of hs a ≡ None → holder_of (filter test hs) a ≡ None) → holder_of (filter test (h ∷ hs)) a ≡ None
    go true s t f ih = absurd (let x : ◌≡◌ {A = Option LockHolder} (Some h) None = rw s at e in cc)
    go false s true f ih = rw (f, s) (ih (rw s at e))
    go false s false f ih = rw f (ih (rw s at e))

-- one who does not hold has no entry
pub not-holding : (hs : List LockHolder) (a : Attempt) → list_any (λ (h : LockHolder). same_attempt a h.attempt) hs ≡ false → holder_of hs a ≡ None
not-holding hs a e = go (holder_of hs a) refl
  where
    go : (o : Option LockHolder) → holder_of hs a ≡ o → holder_of hs a ≡ None
    go None f = f
    go (Some h) f = absurd (false≢true (sym e ∙ sym (holds-is hs a) ∙ ap (λ (o : Option LockHolder). is_some o) f))

-- one whose attempt stands before all is not among those that pass a test
none-among : (a : Attempt) (test : LockHolder → Bool) (hs : List LockHolder) → list_all (attempt_lt a) (map attempt_of hs) ≡ true → has_attempt (attempts_of (filter test hs)) a ≡ false
none-among a test [] e = refl
none-among a test (h ∷ hs) e =
    let q = both (attempt_lt a h.attempt) (list_all (attempt_lt a) (map attempt_of hs)) e in
    go (test h) refl (attempts-apart a h.attempt q.0) (none-among a test hs q.1)
  where
    go : (b : Bool) → test h ≡ b → same_attempt a h.attempt ≡ false → has_attempt (attempts_of (filter test hs)) a ≡ false → has_attempt (attempts_of (filter test (h ∷ hs))) a ≡ false
    go true t s ih = rw (t, s) ih
    go false t s ih = rw t ih

-- a holder is among those that pass a test exactly where it passes
among : (test : LockHolder → Bool) (hs : List LockHolder) → ascends attempt_lt (map attempt_of hs) ≡ true → (i : ℕ) (d : LockHolder) → i < length hs → has_attempt (attempts_of (filter test hs)) (get_or hs i d).attempt ≡ test (get_or hs i d)
among test [] up i d l = absurd (omega (arith, l))
among test (h ∷ hs) up zero d l =
    let q = both (list_all (attempt_lt h.attempt) (map attempt_of hs)) (ascends attempt_lt (map attempt_of hs)) up in
    go (test h) refl ((same_attempt-Decides h.attempt h.attempt).1 refl) (none-among h.attempt test hs q.0)
  where
    go : (b : Bool) → test h ≡ b → same_attempt h.attempt h.attempt ≡ true → has_attempt (attempts_of (filter test hs)) h.attempt ≡ false → has_attempt (attempts_of (filter test (h ∷ hs))) h.attempt ≡ test h
    go true t s n = rw (t, s) refl
    go false t s n = rw t n
among test (h ∷ hs) up (suc i) d l =
    let q = both (list_all (attempt_lt h.attempt) (map attempt_of hs)) (ascends attempt_lt (map attempt_of hs)) up in
    let at = (get_or hs i d).attempt in
    let l' : i < length hs = omega (arith, l) in
    let later : attempt_lt h.attempt at ≡ true = later-there attempt_of h.attempt hs at (get_or hs i d) q.0 (entry-itself attempt_of hs i d q.1 l') in
    go (test h) refl (attempts-turned h.attempt at (attempts-apart h.attempt at later)) (among test hs q.1 i d l')
  where
    go : (b : Bool) → test h ≡ b → same_attempt (get_or hs i d).attempt h.attempt ≡ false → has_attempt (attempts_of (filter test hs)) (get_or hs i d).attempt ≡ test (get_or hs i d) → has_attempt (attempts_of (filter test (h ∷ hs))) (get_or hs i d).attempt ≡ test (get_or hs i d)
    go true t s ih = rw (t, s) ih
    go false t s ih = rw t ih

filter-all : (hs : List LockHolder) → hs ≡ filter (λ (h : LockHolder). true) hs
filter-all [] = refl
filter-all (h ∷ hs) = ap (λ (l : List LockHolder). h ∷ l) (filter-all hs)

filter-twice : (t u : LockHolder → Bool) (hs : List LockHolder) → filter u (filter t hs) ≡ filter (λ (h : LockHolder). t h && u h) hs
filter-twice t u [] = refl
filter-twice t u (h ∷ hs) = go (t h) refl (u h) refl (filter-twice t u hs)
  where
    go : (b : Bool) → t h ≡ b → (c : Bool) → u h ≡ c → filter u (filter t hs) ≡ filter (λ (h : LockHolder). t h && u h) hs → filter u (filter t (h ∷ hs)) ≡ filter (λ (h : LockHolder). t h && u h) (h ∷ hs)
    go true e true f ih = rw (e, f) (ap (λ (l : List LockHolder). h ∷ l) ih)
    go true e false f ih = rw (e, f) ih
    go false e c f ih = rw e ih

not-or : (a b : Bool) → (not a && not b) ≡ not (a || b)
not-or true b = refl
not-or false b = refl

same-turned : (a b : Attempt) → same_attempt a b ≡ same_attempt b a
same-turned a b = grind (arith, common_steps)

-- holders without those of attempts are those that are none of them
none-of-them : (hs : List LockHolder) (gone : List Attempt) → without_holders hs gone ≡ filter (λ (h : LockHolder). not (has_attempt gone h.attempt)) hs
none-of-them hs [] = filter-all hs
none-of-them hs (a ∷ gone) =
    none-of-them (without_entry attempt_of hs a) gone
    ∙ filter-twice (λ (h : LockHolder). not (same_attempt a h.attempt)) (λ (h : LockHolder). not (has_attempt gone h.attempt)) hs
    ∙ filters-agree (λ (h : LockHolder). not (same_attempt a h.attempt) && not (has_attempt gone h.attempt)) (λ (h : LockHolder). not (has_attempt (a ∷ gone) h.attempt)) hs (λ i d l. not-or (same_attempt a (get_or hs i d).attempt) (has_attempt gone (get_or hs i d).attempt) ∙ ap (λ (b : Bool). not (b || has_attempt gone (get_or hs i d).attempt)) (same-turned a (get_or hs i d).attempt))

-- without those that pass a test, those are left that do not
pub left-is : (test : LockHolder → Bool) (hs : List LockHolder) → ascends attempt_lt (map attempt_of hs) ≡ true → without_holders hs (attempts_of (filter test hs)) ≡ filter (λ (h : LockHolder). not (test h)) hs
left-is test hs up =
    none-of-them hs (attempts_of (filter test hs))
    ∙ filters-agree (λ (h : LockHolder). not (has_attempt (attempts_of (filter test hs)) h.attempt)) (λ (h : LockHolder). not (test h)) hs (λ i d l. ap not (among test hs up i d l))

-- those in the way that may be wounded are those wounded
pub wounded-is : (prepared : List Attempt) (a : Attempt) (reads writes : List Key) (hs : List LockHolder) → filter (is_open prepared a) (attempts_of (filter (conflicts a reads writes) hs)) ≡ attempts_of (filter (is_wounded_by prepared a reads writes) hs)
wounded-is prepared a reads writes [] = refl
wounded-is prepared a reads writes (h ∷ hs) = go (conflicts a reads writes h) refl (is_younger h.attempt a) refl (has_attempt prepared h.attempt) refl (wounded-is prepared a reads writes hs)
  where
    go : (c : Bool) → conflicts a reads writes h ≡ c → (y : Bool) → is_younger h.attempt a ≡ y → (p : Bool) → has_attempt prepared h.attempt ≡ p → filter (is_open prepared a) (attempts_of (filter (conflicts a reads writes) hs)) ≡ attempts_of (filter (is_wounded_by prepared a reads writes) hs) → filter (is_open prepared a) (attempts_of (filter (conflicts a reads writes) (h ∷ hs))) ≡ attempts_of (filter (is_wounded_by prepared a reads writes) (h ∷ hs))
    go true c true y true p ih = rw (c, y, p) ih
    go true c true y false p ih = rw (c, y, p) (ap (λ (l : List Attempt). h.attempt ∷ l) ih)
    go true c false y p e ih = rw (c, y) ih
    go false c y e p f ih = rw c ih

-- the entry of a holder among those that pass a test
abbrev entry_if : Bool → LockHolder → Option LockHolder
entry_if b h = if b then Some h else None

later-kept : (a : Attempt) (test : LockHolder → Bool) (hs : List LockHolder) → list_all (attempt_lt a) (map attempt_of hs) ≡ true → list_all (attempt_lt a) (map attempt_of (filter test hs)) ≡ true
later-kept a test [] e = refl
later-kept a test (h ∷ hs) e =
    let q = both (attempt_lt a h.attempt) (list_all (attempt_lt a) (map attempt_of hs)) e in
    go (test h) refl q.0 (later-kept a test hs q.1)
  where
    go : (b : Bool) → test h ≡ b → attempt_lt a h.attempt ≡ true → list_all (attempt_lt a) (map attempt_of (filter test hs)) ≡ true → list_all (attempt_lt a) (map attempt_of (filter test (h ∷ hs))) ≡ true
    go true t s ih = rw (t, s) ih
    go false t s ih = rw t ih

entry-kept : (test : LockHolder → Bool) (hs : List LockHolder) → ascends attempt_lt (map attempt_of hs) ≡ true → (i : ℕ) (d : LockHolder) → i < length hs → holder_of (filter test hs) (get_or hs i d).attempt ≡ entry_if (test (get_or hs i d)) (get_or hs i d)
entry-kept test [] up i d l = absurd (omega (arith, l))
entry-kept test (h ∷ hs) up zero d l =
    let q = both (list_all (attempt_lt h.attempt) (map attempt_of hs)) (ascends attempt_lt (map attempt_of hs)) up in
    go (test h) refl ((same_attempt-Decides h.attempt h.attempt).1 refl) (none-there attempt_of (filter test hs) h.attempt (later-kept h.attempt test hs q.0)).0
  where
    go : (b : Bool) → test h ≡ b → same_attempt h.attempt h.attempt ≡ true → holder_of (filter test hs) h.attempt ≡ None → holder_of (filter test (h ∷ hs)) h.attempt ≡ entry_if (test h) h
    go true t s n = rw (t, s) refl
    go false t s n = rw t n
entry-kept test (h ∷ hs) up (suc i) d l =
    let q = both (list_all (attempt_lt h.attempt) (map attempt_of hs)) (ascends attempt_lt (map attempt_of hs)) up in
    let at = (get_or hs i d).attempt in
    let l' : i < length hs = omega (arith, l) in
    let later : attempt_lt h.attempt at ≡ true = later-there attempt_of h.attempt hs at (get_or hs i d) q.0 (entry-itself attempt_of hs i d q.1 l') in
    go (test h) refl (attempts-turned h.attempt at (attempts-apart h.attempt at later)) (entry-kept test hs q.1 i d l')
  where
    go : (b : Bool) → test h ≡ b → same_attempt (get_or hs i d).attempt h.attempt ≡ false → holder_of (filter test hs) (get_or hs i d).attempt ≡ entry_if (test (get_or hs i d)) (get_or hs i d) → holder_of (filter test (h ∷ hs)) (get_or hs i d).attempt ≡ entry_if (test (get_or hs i d)) (get_or hs i d)
    go true t s ih = rw (t, s) ih
    go false t s ih = rw t ih

named-kept : (left : List LockHolder) (test way : LockHolder → Bool) (hs : List LockHolder) → ((i : ℕ) (d : LockHolder) → i < length hs → holder_of left (get_or hs i d).attempt ≡ entry_if (test (get_or hs i d)) (get_or hs i d)) → named_of left (attempts_of (filter way hs)) ≡ named_holders (filter way (filter test hs))
named-kept left test way [] k = refl
named-kept left test way (h ∷ hs) k = go (way h) refl (test h) refl (k zero h (omega arith)) (named-kept left test way hs (λ i d l. k (suc i) d (omega (arith, l))))
  where
    go : (w : Bool) → way h ≡ w → (t : Bool) → test h ≡ t → holder_of left h.attempt ≡ entry_if (test h) h → named_of left (attempts_of (filter way hs)) ≡ named_holders (filter way (filter test hs)) → named_of left (attempts_of (filter way (h ∷ hs))) ≡ named_holders (filter way (filter test (h ∷ hs)))
    go true w true t e ih = let x : holder_of left h.attempt ≡ Some h = rw t at e in rw (w, t, x) (rw w (ap (λ (l : List Holder). record { attempt = h.attempt; coordinator = h.coordinator } ∷ l) ih))
    go true w false t e ih = let x : holder_of left h.attempt ≡ None = rw t at e in rw (w, t, x) ih
    go false w true t e ih = rw (w, t) (rw w ih)
    go false w false t e ih = rw (w, t) ih

-- those in the way that still hold locks are those in the way among the holders left
pub waiting-is : (test way : LockHolder → Bool) (hs : List LockHolder) → ascends attempt_lt (map attempt_of hs) ≡ true → named_of (filter (λ (h : LockHolder). not (test h)) hs) (attempts_of (filter way hs)) ≡ named_holders (filter way (filter (λ (h : LockHolder). not (test h)) hs))
waiting-is test way hs up = named-kept (filter (λ (h : LockHolder). not (test h)) hs) (λ (h : LockHolder). not (test h)) way hs (entry-kept (λ (h : LockHolder). not (test h)) hs up)

pub fewer : (test : LockHolder → Bool) (hs : List LockHolder) → length (filter test hs) ≤ length hs
fewer test [] = omega arith
fewer test (h ∷ hs) = go (test h) refl (fewer test hs)
  where
    go : (b : Bool) → test h ≡ b → length (filter test hs) ≤ length hs → length (filter test (h ∷ hs)) ≤ length (h ∷ hs)
    go true e ih = rw e (omega (arith, ih))
    go false e ih = rw e (omega (arith, ih))

pub copied-some : (o : Option (Bor LockHolder)) → is_some o ≡ is_some (option_copied o)
copied-some None = refl
copied-some (Some x) = refl
