-- The attempts that hold locks as a table of them keeps them.
use Rattle.std.specs.Prelude.{◌≡◌, ℕ, ◌+◌, ◌<◌, ◌≤◌, Bool, true, false, ◌&&◌, not, List, [], ◌∷◌, nat_le, Option, Some, None, IfSome, vec_len, vec_capacity}
use Rattle.rss_names.specs.declared.attempt.Attempt.{Attempt}
use Rattle.rss_names.specs.declared.service.Key.{Key}
use Rattle.rss_wire.specs.declared.messages.Holder.{Holder}
use Rattle.rss_tables.specs.Attempts.{has_attempt, attempt_lt, is_younger}
use Rattle.rss_tables.specs.Locks.{LockHolder, attempts_of}
use Rattle.attempt_index.specs.Ascending.{ascends}
use Rattle.attempt_index.specs.Entries.{entry_of, without_entry, IsIndexOf}
use Rattle.attempt_index.specs.KeyIndex.{key_attempt_lt}
use Rattle.shard_locks.specs.declared.holders.HolderTable.TheInside.{Inside}

-- the holders by ascending attempt, and for how many keys of one more room was made since it was used up
pub record HoldersView : Type 0 where
  pub holders : List LockHolder
  pub room : Option ℕ

-- whether there is room for one more with a number of keys
abbrev pub has_holder_room : Option ℕ → ℕ → Bool
has_holder_room None keys = false
has_holder_room (Some room) keys = nat_le keys room

abbrev pub attempt_of : LockHolder → Attempt
attempt_of h = h.attempt

abbrev pub reads_of : LockHolder → List Key
reads_of h = h.reads

abbrev pub writes_of : LockHolder → List Key
writes_of h = h.writes

-- the holder of an attempt
abbrev pub holder_of : List LockHolder → Attempt → Option LockHolder
holder_of holders attempt = entry_of attempt_of holders attempt

-- there is memory for one more with a number of keys
pub record HasHolderMemory (t : Inside) (keys : ℕ) : Type 0 where
  pub entry : vec_len t.entries < vec_capacity t.entries
  pub attempt : vec_len t.attempts < vec_capacity t.attempts
  pub readers : vec_len t.readers + keys ≤ vec_capacity t.readers
  pub writers : vec_len t.writers + keys ≤ vec_capacity t.writers

pub record AreKept (t : Inside) : Type 0 where
  pub attempts : t.attempts.items ≡ attempts_of t.entries.items
  pub ascending : ascends attempt_lt t.attempts.items ≡ true
  pub readers_ascend : ascends key_attempt_lt t.readers.items ≡ true
  pub writers_ascend : ascends key_attempt_lt t.writers.items ≡ true
  pub reading : IsIndexOf attempt_of reads_of t.readers.items t.entries.items
  pub writing : IsIndexOf attempt_of writes_of t.writers.items t.entries.items
  pub room : IfSome t.room (HasHolderMemory t)

-- holders without those of attempts
abbrev pub without_holders : List LockHolder → List Attempt → List LockHolder
without_holders holders [] = holders
without_holders holders (a ∷ attempts) = without_holders (without_entry attempt_of holders a) attempts

-- a holder as a reply names it, before others
abbrev pub named_before : Option LockHolder → List Holder → List Holder
named_before None others = others
named_before (Some h) others = record { attempt = h.attempt; coordinator = h.coordinator } ∷ others

-- those of these attempts that hold locks, as a reply names them
abbrev pub named_of : List LockHolder → List Attempt → List Holder
named_of holders [] = []
named_of holders (a ∷ attempts) = named_before (holder_of holders a) (named_of holders attempts)

-- whether an attempt can be wounded by another: it is younger and not prepared
abbrev pub is_open : List Attempt → Attempt → Attempt → Bool
is_open prepared attempt other = is_younger other attempt && not (has_attempt prepared other)
