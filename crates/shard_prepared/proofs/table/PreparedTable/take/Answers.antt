use Rattle.std.proofs.Common.{ap, sym, arith, ◌∙◌}
use Rattle.rss_names.specs.declared.attempt.Attempt.{Attempt}
use Rattle.shard_prepared.specs.Kept.{HasMemory}
use Rattle.attempt_index.specs.KeyIndex.{without_keys}
use Rattle.shard_prepared.specs.PreparedView.{PreparedView}
use Rattle.shard_prepared.specs.Written.{attempt_of, keys_of}
use Rattle.attempt_index.proofs.Beside.{indexed-without}
use Rattle.attempt_index.proofs.Entries.{taken, entry-found, entry-missing, own-entry, if-some}
use Rattle.shard_prepared.proofs.Alike.{prepared-is}
use Rattle.shard_prepared.proofs.table.PreparedTable.take.Goals as goal

pub invariant_of-self : goal.invariant_of-self
invariant_of-self c =
    let found = rw c.as_slice.ensures.value at c.in-Ok.ensures.found in
    let stands = rw c.as_slice.ensures.value at c.in-Ok.ensures.stands in
    let entry = (entry-found attempt_of c.self.inside.entries.items c.self.inside.attempts.items c.args.attempt c.in-Ok.place c.remove-writer.result c.self.invariant.attempts c.self.invariant.ascending found stands c.remove-writer.ensures.value).1 in
    let all = taken attempt_of c.self.inside.entries.items c.self.inside.attempts.items c.args.attempt c.in-Ok.place c.remove-writer.new.self.items c.remove.new.self.items c.self.invariant.attempts c.self.invariant.ascending found c.remove-writer.ensures.items c.remove.ensures.items in
    let own = own-entry attempt_of c.self.inside.entries.items c.args.attempt c.remove-writer.result entry in
    let index = c.drop_writes.ensures.left ∙ ap (λ (a : Attempt). without_keys c.self.inside.index.items a (keys_of c.remove-writer.result)) (sym own) in
    record { attempts = all.1; ascending = all.2; index_ascends = c.drop_writes.ensures.ascending; indexed = rw (index, all.0) (indexed-without attempt_of keys_of c.self.inside.index.items c.self.inside.entries.items c.remove-writer.result c.args.attempt c.self.invariant.indexed c.self.invariant.index_ascends entry); room = if-some (HasMemory c.self.inside) _ (λ w h. record { entry = omega (arith, h.entry, c.remove-writer.ensures.len, c.remove-writer.ensures.capacity); attempt = omega (arith, h.attempt, c.remove.ensures.len, c.remove.ensures.capacity); pairs = omega (arith, h.pairs, c.drop_writes.ensures.few, c.drop_writes.ensures.capacity) }) c.self.inside.room c.self.invariant.room }

pub returns-in-Ok-clause-taken : goal.returns-in-Ok-clause-taken
returns-in-Ok-clause-taken c =
    let held = ap (λ (v : PreparedView). v.prepared) c.self.view_is in
    let found = rw c.as_slice.ensures.value at c.in-Ok.ensures.found in
    let stands = rw c.as_slice.ensures.value at c.in-Ok.ensures.stands in
    let entry = (entry-found attempt_of c.self.inside.entries.items c.self.inside.attempts.items c.args.attempt c.in-Ok.place c.remove-writer.result c.self.invariant.attempts c.self.invariant.ascending found stands c.remove-writer.ensures.value).1 in
    rw held at (sym entry ∙ sym (prepared-is c.self.inside.entries.items c.args.attempt))

pub returns-in-Ok-clause-left : goal.returns-in-Ok-clause-left
returns-in-Ok-clause-left c =
    let held = ap (λ (v : PreparedView). v.prepared) c.self.view_is in
    let found = rw c.as_slice.ensures.value at c.in-Ok.ensures.found in
    let all = taken attempt_of c.self.inside.entries.items c.self.inside.attempts.items c.args.attempt c.in-Ok.place c.remove-writer.new.self.items c.remove.new.self.items c.self.invariant.attempts c.self.invariant.ascending found c.remove-writer.ensures.items c.remove.ensures.items in
    rw held at all.0

pub returns-in-Err-clause-taken : goal.returns-in-Err-clause-taken
returns-in-Err-clause-taken c =
    let held = ap (λ (v : PreparedView). v.prepared) c.self.view_is in
    rw held at (sym (entry-missing attempt_of c.self.inside.entries.items c.self.inside.attempts.items c.args.attempt c.in-Err.field-0 c.self.invariant.attempts c.self.invariant.ascending (rw c.as_slice.ensures.value at c.in-Err.ensures.found)).0 ∙ sym (prepared-is c.self.inside.entries.items c.args.attempt))

pub returns-in-Err-clause-left : goal.returns-in-Err-clause-left
returns-in-Err-clause-left c =
    let held = ap (λ (v : PreparedView). v.prepared) c.self.view_is in
    rw held at (sym (entry-missing attempt_of c.self.inside.entries.items c.self.inside.attempts.items c.args.attempt c.in-Err.field-0 c.self.invariant.attempts c.self.invariant.ascending (rw c.as_slice.ensures.value at c.in-Err.ensures.found)).1)
