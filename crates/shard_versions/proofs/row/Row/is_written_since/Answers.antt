use Rattle.std.proofs.Common.{ap}
use Rattle.shard_versions.specs.Rows.{RowView}
use Rattle.shard_versions.proofs.Latest.{since-last, none-last}
use Rattle.shard_versions.proofs.row.Row.is_written_since.Goals as goal

pub returns-in-Some : goal.returns-in-Some
returns-in-Some c =
    let view = ap (λ (r : RowView). r.kept.versions) c.self.view_is in
    rw view at (since-last c.self.inside.versions.items c.args.time c.in-Some.version.now c.self.invariant (rw c.deref.ensures.value at c.in-Some.ensures.value))

pub returns-in-None : goal.returns-in-None
returns-in-None c =
    let view = ap (λ (r : RowView). r.kept.versions) c.self.view_is in
    none-last c.args.self.now.kept.versions c.args.time (rw (c.deref.ensures.value, view) at c.in-None.ensures.value)
