use Rattle.std.proofs.Common.{arith}
use Rattle.call_tables.proofs.Going.{further}
use Rattle.call_tables.proofs.walk.go_on.Goals as goal

pub loop-at-preserved : goal.loop-at-preserved
loop-at-preserved c =
    further c.args.calls.now c.args.order.now c.loop-at.at c.index-order-at.result c.loop-at.rows.items c.apply.new.rows.items
    (omega (arith, c.loop-at-test.true, c.requires.within)) c.index-order-at.is c.loop-at.invariant c.in_ok-apply.ensures
