-- A lock table as its callers see it, and what it answers a request for locks.
use Rattle.std.specs.Prelude.{ℕ, Bool, false, List, [], Option, Some, None, nat_le, if◌then◌else◌}
use Rattle.rss_names.specs.declared.attempt.Attempt.{Attempt}
use Rattle.rss_names.specs.declared.service.Key.{Key}
use Rattle.rss_tables.specs.Locks.{LockHolder, Locks, holds, is_tombstoned, in_way_of, named_holders, wounded_by, attempts_of}
use Rattle.shard_locks.specs.declared.answer.LockAnswer.{LockAnswer}
use Rattle.shard_locks.specs.declared.answer.LockAnswer.TheVariants.{Granted, Wait, WoundedSelf}

-- the locks, and for how many keys room was made since it was used up
pub record LockView : Type 0 where
  pub locks : Locks
  pub room : Option ℕ

-- whether there is room for a number of keys
abbrev pub has_room : Option ℕ → ℕ → Bool
has_room None keys = false
has_room (Some room) keys = nat_le keys room

-- what an attempt is answered that asked for its locks, by the locks after that
abbrev pub answer_by : Locks → Attempt → List Key → List Key → LockAnswer
answer_by locks attempt reads writes =
    if is_tombstoned locks attempt then
    WoundedSelf
    else
    (if holds locks attempt then Granted else Wait (named_holders (in_way_of locks attempt reads writes)))

-- the attempts that a request wounds: none where the asking attempt is tombstoned or holds its locks
abbrev pub wounded_at : Locks → List Attempt → LockHolder → List Attempt
wounded_at locks prepared new =
    if is_tombstoned locks new.attempt then
    []
    else
    (if holds locks new.attempt then [] else attempts_of (wounded_by locks prepared new.attempt new.reads new.writes))
