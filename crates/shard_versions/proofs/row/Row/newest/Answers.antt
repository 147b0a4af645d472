use Rattle.std.proofs.Common.{ap}
use Rattle.shard_versions.specs.Rows.{RowView}
use Rattle.shard_versions.proofs.Latest.{newest-is}
use Rattle.shard_versions.proofs.row.Row.newest.Goals as goal

pub returns-in-Some : goal.returns-in-Some
returns-in-Some c =
    let view = ap (λ (r : RowView). r.kept.versions) c.self.view_is in
    newest-is c.args.self.now.kept.versions c.in-Some.version.now (rw (c.deref.ensures.value, view) at c.in-Some.ensures.value)
