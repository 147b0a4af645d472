use Rattle.std.proofs.Common.{ap, ◌∙◌, is_some, Option}
use Rattle.rss_tables.specs.Locks.{LockHolder}
use Rattle.shard_locks.specs.LockView.{LockView}
use Rattle.shard_locks.proofs.Alike.{holds-is, copied-some}
use Rattle.shard_locks.proofs.table.LockTable.holds.Goals as goal

pub returns : goal.returns
returns c =
    let held = ap (λ (v : LockView). v.locks.holders) c.self.view_is in
    rw held at (c.is_some.ensures ∙ copied-some c.find.result ∙ ap (λ (o : Option LockHolder). is_some o) c.find.ensures ∙ holds-is c.self.inside.holders.holders c.args.attempt)
