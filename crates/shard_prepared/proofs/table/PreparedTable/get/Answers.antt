use Rattle.std.proofs.Common.{ap, sym, ◌∙◌}
use Rattle.shard_prepared.specs.PreparedView.{PreparedView}
use Rattle.shard_prepared.proofs.Alike.{prepared-is}
use Rattle.shard_prepared.proofs.table.PreparedTable.get.Goals as goal

pub returns : goal.returns
returns c =
    let held = ap (λ (v : PreparedView). v.prepared) c.self.view_is in
    rw held at (rw c.as_slice.ensures.value at c.find_entry.ensures ∙ sym (prepared-is c.self.inside.entries.items c.args.attempt))
