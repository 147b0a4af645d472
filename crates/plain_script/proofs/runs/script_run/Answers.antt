use Rattle.std.proofs.Common.{◌<◌, arith}
use Rattle.plain_script.proofs.StandingRight.{run_answer}
use Rattle.plain_script.proofs.runs.script_run.Goals as goal

pub returns : goal.returns
returns c =
    let small : c.args.stage < 17 = let same = c.number.ensures.same in let high = c.number.ensures.high in omega (arith, same, high) in
    run_answer c.has_whole.result c.args.config.now c.args.h.now c.as_slice.result.now c.args.stage
    c.number.result c.number-2.result c.in_ok-table.table.items c.as_slice-2.result.now
    c.index.result.now c.as_slice.ensures c.in_ok-table.ensures.table c.in_ok-table.ensures.stages
    c.in_ok-table.ensures.within small c.number.ensures.same c.number-2.ensures.same
    c.as_slice-2.ensures c.index.ensures c.has_whole.ensures
