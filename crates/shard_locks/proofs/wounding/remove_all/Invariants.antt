use Rattle.std.proofs.Common.{◌≡◌, drop}
use Rattle.shard_locks.specs.Holders.{without_holders}
use Rattle.shard_locks.proofs.wounding.remove_all.Given as goal

-- the holders so far, without those of the attempts left, are those to be left
abbrev pub invariant-loop-attempt : goal.invariant-loop-attempt
invariant-loop-attempt l =
    (without_holders l.holders.holders (drop l.attempt-index l.attempts) ≡ without_holders l.fn.holders.holders l.attempts)
    × (l.holders.room ≡ l.fn.holders.room)
