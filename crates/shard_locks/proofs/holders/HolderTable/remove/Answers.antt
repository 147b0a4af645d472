use Rattle.std.proofs.Common.{ap, sym, arith}
use Rattle.attempt_index.proofs.Beside.{indexed-without}
use Rattle.attempt_index.proofs.Entries.{taken, entry-found, entry-missing, if-some}
use Rattle.shard_locks.specs.Holders.{HoldersView, HasHolderMemory, attempt_of, reads_of, writes_of}
use Rattle.shard_locks.proofs.holders.HolderTable.remove.Goals as goal

pub invariant_of-self : goal.invariant_of-self
invariant_of-self c =
    let found = rw c.as_slice.ensures.value at c.in-Ok.ensures.found in
    let stands = rw c.as_slice.ensures.value at c.in-Ok.ensures.stands in
    let entry = (entry-found attempt_of c.self.inside.entries.items c.self.inside.attempts.items c.args.attempt c.in-Ok.place c.remove-old.result c.self.invariant.attempts c.self.invariant.ascending found stands c.remove-old.ensures.value).1 in
    let all = taken attempt_of c.self.inside.entries.items c.self.inside.attempts.items c.args.attempt c.in-Ok.place c.remove-old.new.self.items c.remove.new.self.items c.self.invariant.attempts c.self.invariant.ascending found c.remove-old.ensures.items c.remove.ensures.items in
    let readers = rw c.reads.ensures at c.drop_keys.ensures.left in
    let writers = rw c.writes.ensures at c.drop_keys-in-Ok.ensures.left in
    record {
      attempts = all.1;
      ascending = all.2;
      readers_ascend = c.drop_keys.ensures.ascending;
      writers_ascend = c.drop_keys-in-Ok.ensures.ascending;
      reading = rw (readers, all.0) (indexed-without attempt_of reads_of c.self.inside.readers.items c.self.inside.entries.items c.remove-old.result c.args.attempt c.self.invariant.reading c.self.invariant.readers_ascend entry);
      writing = rw (writers, all.0) (indexed-without attempt_of writes_of c.self.inside.writers.items c.self.inside.entries.items c.remove-old.result c.args.attempt c.self.invariant.writing c.self.invariant.writers_ascend entry);
      room = if-some (HasHolderMemory c.self.inside) _ (λ w h. record { entry = omega (arith, h.entry, c.remove-old.ensures.len, c.remove-old.ensures.capacity); attempt = omega (arith, h.attempt, c.remove.ensures.len, c.remove.ensures.capacity); readers = omega (arith, h.readers, c.drop_keys.ensures.few, c.drop_keys.ensures.capacity); writers = omega (arith, h.writers, c.drop_keys-in-Ok.ensures.few, c.drop_keys-in-Ok.ensures.capacity) }) c.self.inside.room c.self.invariant.room;
    }

pub returns-in-Ok-clause-left : goal.returns-in-Ok-clause-left
returns-in-Ok-clause-left c =
    let held = ap (λ (v : HoldersView). v.holders) c.self.view_is in
    let found = rw c.as_slice.ensures.value at c.in-Ok.ensures.found in
    let all = taken attempt_of c.self.inside.entries.items c.self.inside.attempts.items c.args.attempt c.in-Ok.place c.remove-old.new.self.items c.remove.new.self.items c.self.invariant.attempts c.self.invariant.ascending found c.remove-old.ensures.items c.remove.ensures.items in
    rw held at all.0

pub returns-in_default-clause-left : goal.returns-in_default-clause-left
returns-in_default-clause-left c =
    let held = ap (λ (v : HoldersView). v.holders) c.self.view_is in
    rw held at (sym (entry-missing attempt_of c.self.inside.entries.items c.self.inside.attempts.items c.args.attempt c.in_default.field-0 c.self.invariant.attempts c.self.invariant.ascending (rw c.as_slice.ensures.value at c.in_default.ensures.found)).1)
