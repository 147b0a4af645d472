use Rattle.std.proofs.Common.{ap, sym}
use Rattle.shard_versions.specs.Rows.{RowView}
use Rattle.shard_versions.proofs.Latest.{upto-found, none-found}
use Rattle.shard_versions.proofs.row.Row.at.Goals as goal

pub returns-in-Some : goal.returns-in-Some
returns-in-Some c =
    let view = ap (λ (r : RowView). r.kept.versions) c.self.view_is in
    upto-found c.args.self.now.kept.versions c.args.time c.in-Some.place c.index.result.now c.in-Some.ensures (rw view at c.index.ensures)

pub returns-in-None : goal.returns-in-None
returns-in-None c = sym (none-found c.args.self.now.kept.versions c.args.time c.in-None.ensures)
