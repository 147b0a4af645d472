use Rattle.std.proofs.Common.{◌≡◌, ap}
use Rattle.rss_tables.specs.Locks.{after_lock}
use Rattle.rss_tables.specs.Prepared.{prepared_attempts}
use Rattle.rss_tables.specs.ShardRow.{Shard}
use Rattle.txn_shard.specs.ShardView.{ShardView}
use Rattle.txn_shard.proofs.shard.Shard.lock.Goals as goal

pub returns-clause-after : goal.returns-clause-after
returns-clause-after c =
    let view = ap (λ (v : ShardView). v.shard) c.self.view_is in
    let locks = rw c.attempts-prepared.ensures at c.ask-answer.ensures.locks in
    let after : Shard → Shard = λ (sh : Shard). record sh { locks = after_lock sh.locks (prepared_attempts sh.prepared) record { attempt = c.args.attempt; coordinator = c.args.coordinator; reads = c.args.reads.now; writes = c.args.writes.now } } in
    rw locks (ap after view)
