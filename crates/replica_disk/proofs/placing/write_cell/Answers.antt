use Rattle.std.proofs.lemmas.Result.{err_from_is_err_and}
use Rattle.replica_disk.proofs.Steps.{fills, open_stops, writes}
use Rattle.replica_disk.proofs.placing.write_cell.Goals as goal

pub returns-in_err-open_gate-clause-stopped : goal.returns-in_err-open_gate-clause-stopped
returns-in_err-open_gate-clause-stopped g c =
    let p = err_from_is_err_and c.from_residual-in_err-open_gate.result c.from_residual-in_err-open_gate.ensures.1 in
    rw p.1 (open_stops _ _ _ _ c.args.at c.args.new
    (fills _ _ _ c.args.at c.args.new c.in_ok-close_gate.ensures.shut c.in_ok-fill.ensures.filled) c.in_err-open_gate.ensures.stopped)

pub returns-clause-written : goal.returns-clause-written
returns-clause-written g c =
    writes _ _ _ c.args.at c.args.new
    (fills _ _ _ c.args.at c.args.new c.in_ok-close_gate.ensures.shut c.in_ok-fill.ensures.filled) c.in_ok-open_gate.ensures.opened
