-- The locks of a shard: who holds which keys, and what a request for locks does. An older
-- transaction wounds a younger one that is in its way and not prepared; a younger one waits.
use Rattle.std.specs.Prelude.{ℕ, Bool, true, false, ◌&&◌, ◌||◌, ◌==◌, not, List, [], ◌∷◌, ◌++◌, length, map, Option, Some, None, if◌then◌else◌}
use Rattle.std.specs.List.{list_any, filter}
use Rattle.rss_names.specs.declared.attempt.Attempt.{Attempt}
use Rattle.rss_names.specs.declared.service.Key.{Key}
use Rattle.rss_names.specs.Services.{same_key}
use Rattle.rss_wire.specs.declared.messages.Holder.{Holder}
use Rattle.rss_tables.specs.Attempts.{same_attempt, has_attempt, attempt_lt, is_younger, with_attempt}

-- an attempt that holds locks: its coordinator, and the keys that it reads and writes here
pub record LockHolder : Type 0 where
  pub attempt : Attempt
  pub coordinator : ℕ
  pub reads : List Key
  pub writes : List Key

-- who holds locks, by ascending attempt, and the attempts that can hold none any more
pub record Locks : Type 0 where
  pub holders : List LockHolder
  pub tombs : List Attempt

-- nobody holds a lock
abbrev pub no_locks : Locks
no_locks = record { holders = []; tombs = [] }

-- whether a key is in a list
abbrev pub has_key : List Key → Key → Bool
has_key keys key = list_any (same_key key) keys

-- whether two lists share a key
abbrev pub share_key : List Key → List Key → Bool
share_key keys others = list_any (has_key others) keys

-- whether these reads and writes are in each other's way: some key of both is written by one side
abbrev pub in_the_way : List Key → List Key → List Key → List Key → Bool
in_the_way reads writes reads' writes' =
    share_key writes writes' || share_key writes reads' || share_key reads writes'

-- whether a holder is another attempt in the way of this one
abbrev pub conflicts : Attempt → List Key → List Key → LockHolder → Bool
conflicts attempt reads writes h =
    not (same_attempt attempt h.attempt) && in_the_way reads writes h.reads h.writes

-- whether an attempt holds locks
abbrev pub holds : Locks → Attempt → Bool
holds locks attempt = list_any (λ (h : LockHolder). same_attempt attempt h.attempt) locks.holders

-- the coordinator that a holder named, if the attempt holds locks
abbrev pub coordinator_in : List LockHolder → Attempt → Option ℕ
coordinator_in [] attempt = None
coordinator_in (h ∷ holders) attempt =
    if same_attempt attempt h.attempt then Some h.coordinator else coordinator_in holders attempt

-- whether an attempt is tombstoned
abbrev pub is_tombstoned : Locks → Attempt → Bool
is_tombstoned locks attempt = has_attempt locks.tombs attempt

-- whether a holder is wounded by this attempt: in its way, younger, and not prepared
abbrev pub is_wounded_by : List Attempt → Attempt → List Key → List Key → LockHolder → Bool
is_wounded_by prepared attempt reads writes h =
    conflicts attempt reads writes h && is_younger h.attempt attempt && not (has_attempt prepared h.attempt)

-- the holders that this attempt wounds
abbrev pub wounded_by : Locks → List Attempt → Attempt → List Key → List Key → List LockHolder
wounded_by locks prepared attempt reads writes =
    filter (is_wounded_by prepared attempt reads writes) locks.holders

-- the attempts of holders
abbrev pub attempts_of : List LockHolder → List Attempt
attempts_of holders = map (λ (h : LockHolder). h.attempt) holders

-- attempts are tombstoned, in order
abbrev pub with_tombs : List Attempt → List Attempt → List Attempt
with_tombs tombs [] = tombs
with_tombs tombs (a ∷ attempts) = with_tombs (with_attempt tombs a) attempts

-- the wounded lose their locks and are tombstoned
abbrev pub after_wounds : Locks → List Attempt → Attempt → List Key → List Key → Locks
after_wounds locks prepared attempt reads writes = record {
  holders = filter (λ (h : LockHolder). not (is_wounded_by prepared attempt reads writes h)) locks.holders;
  tombs = with_tombs locks.tombs (attempts_of (wounded_by locks prepared attempt reads writes));
}

-- a holder among holders by ascending attempt
abbrev pub with_holder : List LockHolder → LockHolder → List LockHolder
with_holder [] new = new ∷ []
with_holder (h ∷ holders) new =
    if attempt_lt new.attempt h.attempt then new ∷ h ∷ holders else h ∷ with_holder holders new

-- who is in the way of an attempt
abbrev pub in_way_of : Locks → Attempt → List Key → List Key → List LockHolder
in_way_of locks attempt reads writes = filter (conflicts attempt reads writes) locks.holders

-- the locks are taken where nobody is in the way
abbrev pub taken : Locks → LockHolder → Locks
taken locks new =
    if length (in_way_of locks new.attempt new.reads new.writes) == 0 then
    record locks { holders = with_holder locks.holders new }
    else
    locks

-- the locks after a request: nothing changes for an attempt that is tombstoned or holds its locks
abbrev pub after_lock : Locks → List Attempt → LockHolder → Locks
after_lock locks prepared new =
    if is_tombstoned locks new.attempt || holds locks new.attempt then
    locks
    else
    taken (after_wounds locks prepared new.attempt new.reads new.writes) new

-- an attempt gives its locks back
abbrev pub without_holder : Locks → Attempt → Locks
without_holder locks attempt =
    record locks { holders = filter (λ (h : LockHolder). not (same_attempt attempt h.attempt)) locks.holders }

-- an attempt is tombstoned
abbrev pub with_tomb : Locks → Attempt → Locks
with_tomb locks attempt = record locks { tombs = with_attempt locks.tombs attempt }

-- those in the way as a reply names them
abbrev pub named_holders : List LockHolder → List Holder
named_holders holders = map (λ (h : LockHolder). record { attempt = h.attempt; coordinator = h.coordinator }) holders
