use Rattle.pipeline_tables.proofs.Laws.{names_of_drop, names_of_end, turn_ok, turn_err, turn_end, tells_err}
use Rattle.std.proofs.Common.{arith, sym}
use Rattle.pipeline_tables.proofs.lists.names_of.Goals as goal

pub returns-in_err-name : goal.returns-in_err-name
returns-in_err-name c =
    let step = names_of_drop c.args.place c.args.values.now c.loop-value.value-index c.value-item.result c.loop-value-test.true in
    tells_err c.from_residual.result c.in_err-name.field-0.0 _ (turn_err _ _ c.loop-value.names _ _ _ c.loop-value.invariant (rw (← c.value-item.is) at step) (sym c.in_err-name.ensures)) c.from_residual.ensures.1

pub loop-value-preserved : goal.loop-value-preserved
loop-value-preserved c =
    let step = names_of_drop c.args.place c.args.values.now c.loop-value.value-index c.value-item.result c.loop-value-test.true in
    rw c.in_ok-push.ensures.ok (turn_ok _ _ _ c.loop-value.names _ _ c.loop-value.invariant (rw (← c.value-item.is) at step) (sym c.in_ok-name.ensures))

pub returns : goal.returns
returns c = turn_end _ _ c.loop-value.names c.loop-value.invariant (names_of_end c.args.place c.args.values.now c.loop-value.value-index (omega arith))
