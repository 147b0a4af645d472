use Rattle.std.proofs.Common.{length, filter, vec_capacity, ap, arith}
use Rattle.rss_tables.specs.Locks.{conflicts}
use Rattle.attempt_index.proofs.Entries.{attempts-length}
use Rattle.shard_locks.specs.Holders.{HoldersView, attempt_of}
use Rattle.shard_locks.proofs.Alike.{fewer}
use Rattle.shard_locks.proofs.InWay.{first-fits, second-fits, third-fits, found-in-way}
use Rattle.shard_locks.proofs.holders.HolderTable.list_in_way.Goals as goal

pub put_beside-requires-clause-room : goal.put_beside-requires-clause-room
put_beside-requires-clause-room c =
    let held = ap (λ (v : HoldersView). length v.holders) c.self.view_is in
    let up = rw c.self.invariant.attempts at c.self.invariant.ascending in
    let fits = first-fits c.self.inside.readers.items c.self.inside.writers.items c.self.inside.entries.items up c.self.invariant.reading c.self.invariant.writing c.args.asking.now.writes (vec_capacity c.args.found.now) (omega (arith, held, c.requires.room)) in
    rw (c.as_slice.ensures.value, c.writes.ensures, c.requires.empty) fits

pub put_beside-requires-2-clause-room : goal.put_beside-requires-2-clause-room
put_beside-requires-2-clause-room c =
    let held = ap (λ (v : HoldersView). length v.holders) c.self.view_is in
    let up = rw c.self.invariant.attempts at c.self.invariant.ascending in
    let first = rw (c.as_slice.ensures.value, c.writes.ensures, c.requires.empty) at c.put_beside.ensures.put in
    let fits = second-fits c.self.inside.readers.items c.self.inside.writers.items c.self.inside.entries.items up c.self.invariant.reading c.self.invariant.writing c.args.asking.now.writes c.put_beside.new.list.items (vec_capacity c.put_beside.new.list) first (omega (arith, held, c.requires.room, c.put_beside.ensures.capacity)) in
    rw (c.as_slice-2.ensures.value, c.writes-2.ensures) fits

pub put_beside-requires-3-clause-room : goal.put_beside-requires-3-clause-room
put_beside-requires-3-clause-room c =
    let held = ap (λ (v : HoldersView). length v.holders) c.self.view_is in
    let up = rw c.self.invariant.attempts at c.self.invariant.ascending in
    let first = rw (c.as_slice.ensures.value, c.writes.ensures, c.requires.empty) at c.put_beside.ensures.put in
    let second = rw (c.as_slice-2.ensures.value, c.writes-2.ensures) at c.put_beside-2.ensures.put in
    let fits = third-fits c.self.inside.readers.items c.self.inside.writers.items c.self.inside.entries.items up c.self.invariant.reading c.self.invariant.writing c.args.asking.now.reads c.args.asking.now.writes c.put_beside.new.list.items c.put_beside-2.new.list.items (vec_capacity c.put_beside-2.new.list) first second (omega (arith, held, c.requires.room, c.put_beside.ensures.capacity, c.put_beside-2.ensures.capacity)) in
    rw (c.as_slice-3.ensures.value, c.reads.ensures) fits

pub returns-clause-found : goal.returns-clause-found
returns-clause-found c =
    let held = ap (λ (v : HoldersView). v.holders) c.self.view_is in
    let up = rw c.self.invariant.attempts at c.self.invariant.ascending in
    let first = rw (c.as_slice.ensures.value, c.writes.ensures, c.requires.empty) at c.put_beside.ensures.put in
    let second = rw (c.as_slice-2.ensures.value, c.writes-2.ensures) at c.put_beside-2.ensures.put in
    let third = rw (c.as_slice-3.ensures.value, c.reads.ensures) at c.put_beside-3.ensures.put in
    rw held at (found-in-way c.self.inside.readers.items c.self.inside.writers.items c.self.inside.entries.items up c.self.invariant.reading c.self.invariant.writing c.args.asking.now.attempt c.args.asking.now.reads c.args.asking.now.writes c.put_beside.new.list.items c.put_beside-2.new.list.items c.put_beside-3.new.list.items (rw (← held) at c.requires.new) first second third)

pub returns-clause-few : goal.returns-clause-few
returns-clause-few c =
    let held' = ap (λ (v : HoldersView). length v.holders) c.self.view_is in
    let held = ap (λ (v : HoldersView). v.holders) c.self.view_is in
    let up = rw c.self.invariant.attempts at c.self.invariant.ascending in
    let first = rw (c.as_slice.ensures.value, c.writes.ensures, c.requires.empty) at c.put_beside.ensures.put in
    let second = rw (c.as_slice-2.ensures.value, c.writes-2.ensures) at c.put_beside-2.ensures.put in
    let third = rw (c.as_slice-3.ensures.value, c.reads.ensures) at c.put_beside-3.ensures.put in
    let found = ap length (found-in-way c.self.inside.readers.items c.self.inside.writers.items c.self.inside.entries.items up c.self.invariant.reading c.self.invariant.writing c.args.asking.now.attempt c.args.asking.now.reads c.args.asking.now.writes c.put_beside.new.list.items c.put_beside-2.new.list.items c.put_beside-3.new.list.items (rw (← held) at c.requires.new) first second third) in
    omega (arith, held', found, fewer (conflicts c.args.asking.now.attempt c.args.asking.now.reads c.args.asking.now.writes) c.self.inside.entries.items, attempts-length attempt_of (filter (conflicts c.args.asking.now.attempt c.args.asking.now.reads c.args.asking.now.writes) c.self.inside.entries.items))

pub returns-clause-ascending : goal.returns-clause-ascending
returns-clause-ascending c =
    let held = ap (λ (v : HoldersView). v.holders) c.self.view_is in
    rw held at (rw c.self.invariant.attempts at c.self.invariant.ascending)
