use Rattle.std.proofs.lemmas.Result.{err_from_is_err_and}
use Rattle.std.proofs.Common.{subst}
use Rattle.replica_disk.specs.Disks.{MadeCalls}
use Rattle.rss_tables.specs.ReplicaRow.{dep_cell}
use Rattle.replica_disk.proofs.Settled.{above_there, cost_replaces, opens_accept, replaces_there, settled_after, times_replaces}
use Rattle.replica_disk.proofs.accepting.store.Goals as goal

pub replace-requires-clause-above : goal.replace-requires-clause-above
replace-requires-clause-above g c = above_there _ _ c.args.held.now c.args.dep.now c.requires.settled c.requires.newer

pub returns-in_err-replace-clause-stopped : goal.returns-in_err-replace-clause-stopped
returns-in_err-replace-clause-stopped g c =
    let p = err_from_is_err_and c.from_residual.result c.from_residual.ensures.1 in
    rw p.1 (opens_accept _ _ _ _ c.args.held.now c.args.dep.now c.requires.settled c.requires.newer c.in_err-replace.ensures.stopped)

pub returns-clause-settled : goal.returns-clause-settled
returns-clause-settled g c =
    settled_after _ _ _ _ c.args.held.now c.args.dep.now.key.index (dep_cell c.args.dep.now) c.requires.settled
    (replaces_there c.args.held.now c.args.dep.now c.requires.newer) c.in_ok-replace.ensures.holds c.in_ok-replace.ensures.durable

pub returns-clause-times : goal.returns-clause-times
returns-clause-times g c =
    times_replaces _ _ c.args.held.now c.args.dep.now c.requires.newer c.in_ok-replace.ensures.holds c.in_ok-replace.ensures.gates

pub returns-clause-made : goal.returns-clause-made
returns-clause-made g c =
    subst (λ n. MadeCalls (g.D.Disk.made c.args.disk.now) (g.D.Disk.made c.replace.new.disk) n)
    (cost_replaces _ c.args.held.now c.args.dep.now c.requires.newer) c.in_ok-replace.ensures.made
