use Rattle.std.proofs.Common.{not, length, nat_le, vec_capacity, refl, ap, ◌∙◌, arith}
use Rattle.rss_tables.specs.Prepared.{PreparedWriter, must_wait_for}
use Rattle.shard_prepared.specs.PreparedView.{PreparedView}
use Rattle.attempt_index.specs.Orders.{holder_lt, skipped_lt}
use Rattle.shard_prepared.specs.Sifted.{holder_of, skipped_of}
use Rattle.shard_prepared.proofs.Sifted.{sifted, sifted-fits}
use Rattle.shard_prepared.proofs.table.PreparedTable.sift.Goals as goal

pub sift-requires-clause-blocking_room : goal.sift-requires-clause-blocking_room
sift-requires-clause-blocking_room c =
    let held = ap (λ (v : PreparedView). length v.prepared) c.self.view_is in
    let fits = sifted-fits holder_lt holder_of (λ p q. refl) (λ (p : PreparedWriter). nat_le p.prepare_time c.args.read_time) (λ (p : PreparedWriter). must_wait_for c.args.read_time c.args.least c.args.skip p) c.self.inside.index.items c.args.keys.now c.self.inside.entries.items (vec_capacity c.clear.new.self) (rw c.self.invariant.attempts at c.self.invariant.ascending) c.self.invariant.indexed (omega (arith, held, c.requires.blocking_room, c.clear.ensures.capacity)) in
    rw (c.as_slice.ensures.value, c.as_slice-3.ensures.value) fits

pub sift-requires-clause-skipped_room : goal.sift-requires-clause-skipped_room
sift-requires-clause-skipped_room c =
    let held = ap (λ (v : PreparedView). length v.prepared) c.self.view_is in
    let fits = sifted-fits skipped_lt skipped_of (λ p q. refl) (λ (p : PreparedWriter). nat_le p.prepare_time c.args.read_time) (λ (p : PreparedWriter). not (must_wait_for c.args.read_time c.args.least c.args.skip p)) c.self.inside.index.items c.args.keys.now c.self.inside.entries.items (vec_capacity c.clear-2.new.self) (rw c.self.invariant.attempts at c.self.invariant.ascending) c.self.invariant.indexed (omega (arith, held, c.requires.skipped_room, c.clear-2.ensures.capacity)) in
    rw (c.as_slice.ensures.value, c.as_slice-3.ensures.value) fits

pub returns-clause-blocking : goal.returns-clause-blocking
returns-clause-blocking c =
    let held = ap (λ (v : PreparedView). v.prepared) c.self.view_is in
    let all = sifted holder_lt holder_of (λ p q. refl) (λ (p : PreparedWriter). nat_le p.prepare_time c.args.read_time) (λ (p : PreparedWriter). must_wait_for c.args.read_time c.args.least c.args.skip p) c.self.inside.index.items c.args.keys.now c.self.inside.entries.items (rw c.self.invariant.attempts at c.self.invariant.ascending) c.self.invariant.indexed in
    rw held at (rw (c.as_slice.ensures.value, c.as_slice-3.ensures.value) at c.sift.ensures.blocking ∙ all)

pub returns-clause-skipped : goal.returns-clause-skipped
returns-clause-skipped c =
    let held = ap (λ (v : PreparedView). v.prepared) c.self.view_is in
    let all = sifted skipped_lt skipped_of (λ p q. refl) (λ (p : PreparedWriter). nat_le p.prepare_time c.args.read_time) (λ (p : PreparedWriter). not (must_wait_for c.args.read_time c.args.least c.args.skip p)) c.self.inside.index.items c.args.keys.now c.self.inside.entries.items (rw c.self.invariant.attempts at c.self.invariant.ascending) c.self.invariant.indexed in
    rw held at (rw (c.as_slice.ensures.value, c.as_slice-3.ensures.value) at c.sift.ensures.skipped ∙ all)
