use Rattle.std.proofs.Common.{ap, sym, ◌∙◌}
use Rattle.attempt_index.proofs.Beside.{indexed-with}
use Rattle.attempt_index.proofs.Entries.{added}
use Rattle.shard_locks.specs.Holders.{HoldersView, attempt_of, reads_of, writes_of}
use Rattle.shard_locks.proofs.Alike.{with-is}
use Rattle.shard_locks.proofs.holders.HolderTable.add.Goals as goal

pub invariant_of-self : goal.invariant_of-self
invariant_of-self c =
    let held = ap (λ (v : HoldersView). v.holders) c.self.view_is in
    let place = rw (c.as_slice.ensures.value, c.attempt-attempt.ensures) at c.place_of-place.ensures.place in
    let entries = rw c.unwrap.ensures at c.insert.ensures.items in
    let attempts = rw (c.unwrap-2.ensures, c.attempt-attempt.ensures) at c.insert-2.ensures.items in
    let free = rw (← held) at c.requires.new in
    let all = added attempt_of c.self.inside.entries.items c.self.inside.attempts.items c.args.new c.place_of-place.result c.insert.new.self.items c.insert-2.new.self.items c.self.invariant.attempts c.self.invariant.ascending free place entries attempts in
    let readers = rw (c.attempt-attempt.ensures, c.reads.ensures) at c.put_keys.ensures.put in
    let writers = rw (c.attempt-attempt.ensures, c.writes.ensures) at c.put_keys-2.ensures.put in
    record {
      attempts = all.1;
      ascending = all.2;
      readers_ascend = c.put_keys.ensures.ascending;
      writers_ascend = c.put_keys-2.ensures.ascending;
      reading = rw (readers, all.0) (indexed-with attempt_of reads_of c.self.inside.readers.items c.self.inside.entries.items c.args.new c.self.invariant.reading free);
      writing = rw (writers, all.0) (indexed-with attempt_of writes_of c.self.inside.writers.items c.self.inside.entries.items c.args.new c.self.invariant.writing free);
      room = tt;
    }

pub returns-clause-added : goal.returns-clause-added
returns-clause-added c =
    let held = ap (λ (v : HoldersView). v.holders) c.self.view_is in
    let place = rw (c.as_slice.ensures.value, c.attempt-attempt.ensures) at c.place_of-place.ensures.place in
    let entries = rw c.unwrap.ensures at c.insert.ensures.items in
    let attempts = rw (c.unwrap-2.ensures, c.attempt-attempt.ensures) at c.insert-2.ensures.items in
    let free = rw (← held) at c.requires.new in
    let all = added attempt_of c.self.inside.entries.items c.self.inside.attempts.items c.args.new c.place_of-place.result c.insert.new.self.items c.insert-2.new.self.items c.self.invariant.attempts c.self.invariant.ascending free place entries attempts in
    rw held at (all.0 ∙ sym (with-is c.self.inside.entries.items c.args.new))
