-- What becomes of a request for locks once the wounded are gone.
use Rattle.std.specs.Prelude.{◌==◌, List, length, if◌then◌else◌}
use Rattle.std.specs.List.{filter}
use Rattle.rss_tables.specs.Locks.{LockHolder, conflicts, named_holders, with_holder}
use Rattle.shard_locks.specs.declared.answer.LockAnswer.{LockAnswer}
use Rattle.shard_locks.specs.declared.answer.LockAnswer.TheVariants.{Granted, Wait}

-- the holders in the way of the one that asks
abbrev pub ones_in_way : List LockHolder → LockHolder → List LockHolder
ones_in_way holders new = filter (conflicts new.attempt new.reads new.writes) holders

-- it joins the holders where none is in its way
abbrev pub settled : List LockHolder → LockHolder → List LockHolder
settled holders new = if length (ones_in_way holders new) == 0 then with_holder holders new else holders

-- it is told who is in its way, if anyone
abbrev pub settled_answer : List LockHolder → LockHolder → LockAnswer
settled_answer holders new =
    if length (ones_in_way holders new) == 0 then Granted else Wait (named_holders (ones_in_way holders new))
