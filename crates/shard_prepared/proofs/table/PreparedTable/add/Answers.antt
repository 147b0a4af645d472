use Rattle.std.proofs.Common.{ap, sym, ◌∙◌}
use Rattle.attempt_index.proofs.Beside.{indexed-with}
use Rattle.attempt_index.proofs.Entries.{added}
use Rattle.shard_prepared.specs.PreparedView.{PreparedView}
use Rattle.shard_prepared.specs.Written.{attempt_of, keys_of}
use Rattle.shard_prepared.proofs.Alike.{prepared-is, with-is}
use Rattle.shard_prepared.proofs.table.PreparedTable.add.Goals as goal

pub invariant_of-self : goal.invariant_of-self
invariant_of-self c =
    let held = ap (λ (v : PreparedView). v.prepared) c.self.view_is in
    let place = rw (c.as_slice.ensures.value, c.attempt-attempt.ensures) at c.place_of-place.ensures.place in
    let entries = rw c.unwrap.ensures at c.insert.ensures.items in
    let attempts = rw (c.unwrap-2.ensures, c.attempt-attempt.ensures) at c.insert-2.ensures.items in
    let free = sym (prepared-is c.self.inside.entries.items c.args.writer.attempt) ∙ rw (← held) at c.requires.new in
    let all = added attempt_of c.self.inside.entries.items c.self.inside.attempts.items c.args.writer c.place_of-place.result c.insert.new.self.items c.insert-2.new.self.items c.self.invariant.attempts c.self.invariant.ascending free place entries attempts in
    record { attempts = all.1; ascending = all.2; index_ascends = c.put_writes.ensures.ascending; indexed = rw (c.put_writes.ensures.put, all.0) (indexed-with attempt_of keys_of c.self.inside.index.items c.self.inside.entries.items c.args.writer c.self.invariant.indexed free); room = tt }

pub returns-clause-added : goal.returns-clause-added
returns-clause-added c =
    let held = ap (λ (v : PreparedView). v.prepared) c.self.view_is in
    let place = rw (c.as_slice.ensures.value, c.attempt-attempt.ensures) at c.place_of-place.ensures.place in
    let entries = rw c.unwrap.ensures at c.insert.ensures.items in
    let attempts = rw (c.unwrap-2.ensures, c.attempt-attempt.ensures) at c.insert-2.ensures.items in
    let free = sym (prepared-is c.self.inside.entries.items c.args.writer.attempt) ∙ rw (← held) at c.requires.new in
    let all = added attempt_of c.self.inside.entries.items c.self.inside.attempts.items c.args.writer c.place_of-place.result c.insert.new.self.items c.insert-2.new.self.items c.self.invariant.attempts c.self.invariant.ascending free place entries attempts in
    rw held at (all.0 ∙ sym (with-is c.self.inside.entries.items c.args.writer))
