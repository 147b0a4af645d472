use Rattle.std.proofs.Common.{ap, sym}
use Rattle.attempt_index.proofs.Entries.{entry-found, entry-missing}
use Rattle.shard_locks.specs.Holders.{HoldersView, attempt_of}
use Rattle.shard_locks.proofs.holders.HolderTable.find.Goals as goal

pub returns-in-Ok : goal.returns-in-Ok
returns-in-Ok c =
    let held = ap (λ (v : HoldersView). v.holders) c.self.view_is in
    rw held at (sym (entry-found attempt_of c.self.inside.entries.items c.self.inside.attempts.items c.args.attempt c.in-Ok.place c.index.result.now c.self.invariant.attempts c.self.invariant.ascending (rw c.as_slice.ensures.value at c.in-Ok.ensures.found) (rw c.as_slice.ensures.value at c.in-Ok.ensures.stands) c.index.ensures).1)

pub returns-in-Err : goal.returns-in-Err
returns-in-Err c =
    let held = ap (λ (v : HoldersView). v.holders) c.self.view_is in
    rw held at (sym (entry-missing attempt_of c.self.inside.entries.items c.self.inside.attempts.items c.args.attempt c.in-Err.field-0 c.self.invariant.attempts c.self.invariant.ascending (rw c.as_slice.ensures.value at c.in-Err.ensures.found)).0)
