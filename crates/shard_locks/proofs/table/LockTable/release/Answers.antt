use Rattle.std.proofs.Common.{not, length, ap, ◌∙◌, arith}
use Rattle.rss_tables.specs.Attempts.{same_attempt}
use Rattle.rss_tables.specs.Locks.{LockHolder}
use Rattle.attempt_index.proofs.Entries.{if-some}
use Rattle.shard_locks.specs.Kept.{HasMemory}
use Rattle.shard_locks.proofs.Alike.{fewer}
use Rattle.shard_locks.proofs.table.LockTable.release.Goals as goal

pub invariant_of-self : goal.invariant_of-self
invariant_of-self c =
    let left = ap length c.remove.ensures.left in
    let few = fewer (λ (h : LockHolder). not (same_attempt c.args.attempt h.attempt)) c.self.inside.holders.holders in
    record {
      no_reads = c.self.invariant.no_reads;
      no_writes = c.self.invariant.no_writes;
      none_waiting = c.self.invariant.none_waiting;
      room = if-some (HasMemory c.self.inside) _ (λ k h. record { holder = c.remove.ensures.room ∙ h.holder; tomb = h.tomb; tombs = omega (arith, h.tombs, left, few); reads = h.reads; writes = h.writes; found = omega (arith, h.found, left, few); waiting = omega (arith, h.waiting, left, few) }) c.self.inside.room c.self.invariant.room;
    }
