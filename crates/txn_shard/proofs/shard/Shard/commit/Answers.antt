use Rattle.std.proofs.Common.{◌≡◌, ap, sym, None}
use Rattle.rss_tables.specs.Locks.{with_tomb}
use Rattle.rss_tables.specs.Prepared.{prepared_of, without_prepared}
use Rattle.rss_tables.specs.ShardRow.{Shard}
use Rattle.txn_shard.specs.ShardView.{ShardView}
use Rattle.txn_shard.proofs.Answered.{uncommitted}
use Rattle.txn_shard.proofs.shard.Shard.commit.Goals as goal

pub returns-clause-after : goal.returns-clause-after
returns-clause-after c =
    let view = ap (λ (v : ShardView). v.shard) c.self.view_is in
    let prepared = ap (λ (v : ShardView). v.shard.prepared) c.self.view_is in
    let none : prepared_of c.args.self.now.shard.prepared c.args.attempt ≡ None = rw prepared at (sym c.in_default.ensures.taken) in
    let after : Shard → Shard = λ (sh : Shard). record sh { locks = with_tomb sh.locks c.args.attempt; prepared = without_prepared sh.prepared c.args.attempt } in
    uncommitted c.args.self.now.shard _ c.args.attempt c.args.commit_time none (rw (c.tombstone-2.ensures.tombstoned, c.in_default.ensures.left) (ap after view))
