use Rattle.std.proofs.Common.{ap}
use Rattle.shard_versions.specs.Rows.{RowView}
use Rattle.shard_versions.proofs.Latest.{Ascend-push}
use Rattle.shard_versions.proofs.row.Row.push.Goals as goal

pub invariant_of-self : goal.invariant_of-self
invariant_of-self c =
    let view = ap (λ (r : RowView). r.kept.versions) c.self.view_is in
    rw (rw c.unwrap.ensures at c.push.ensures.items) (Ascend-push c.self.inside.versions.items c.args.version c.self.invariant (rw (← view) at c.requires.above))
