use Rattle.std.proofs.lemmas.Result.{err_from_is_err_and}
use Rattle.replica_disk.proofs.Blocks.{second_writes_at, second_stops_at}
use Rattle.replica_disk.proofs.accepting.replace_second.Goals as goal

pub returns-in_err-write_cell-clause-stopped : goal.returns-in_err-write_cell-clause-stopped
returns-in_err-write_cell-clause-stopped g c =
    let p = err_from_is_err_and c.from_residual.result c.from_residual.ensures.1 in
    rw p.1 (second_stops_at _ _ _ c.args.index c.args.at c.args.new c.requires.place c.requires.current c.requires.above c.in_err-write_cell.ensures.stopped)

pub returns-clause-holds : goal.returns-clause-holds
returns-clause-holds g c =
    (second_writes_at _ _ c.args.index c.args.at c.args.new c.requires.place c.requires.current c.requires.above c.in_ok-write_cell.ensures.written).0

pub returns-clause-gates : goal.returns-clause-gates
returns-clause-gates g c =
    (second_writes_at _ _ c.args.index c.args.at c.args.new c.requires.place c.requires.current c.requires.above c.in_ok-write_cell.ensures.written).1
