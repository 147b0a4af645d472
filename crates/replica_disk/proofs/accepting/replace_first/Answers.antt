use Rattle.std.proofs.lemmas.Result.{err_from_is_err_and}
use Rattle.replica_disk.proofs.Blocks.{first_writes_at, first_stops_at}
use Rattle.replica_disk.proofs.accepting.replace_first.Goals as goal

pub returns-in_err-write_cell-clause-stopped : goal.returns-in_err-write_cell-clause-stopped
returns-in_err-write_cell-clause-stopped g c =
    let p = err_from_is_err_and c.from_residual.result c.from_residual.ensures.1 in
    rw p.1 (first_stops_at _ _ _ c.args.index c.args.at c.args.new c.requires.place c.requires.other c.requires.above c.in_err-write_cell.ensures.stopped)

pub returns-clause-holds : goal.returns-clause-holds
returns-clause-holds g c =
    (first_writes_at _ _ c.args.index c.args.at c.args.new c.requires.place c.requires.other c.requires.above c.in_ok-write_cell.ensures.written).0

pub returns-clause-gates : goal.returns-clause-gates
returns-clause-gates g c =
    (first_writes_at _ _ c.args.index c.args.at c.args.new c.requires.place c.requires.other c.requires.above c.in_ok-write_cell.ensures.written).1
