use Rattle.std.proofs.Common.{ap, arith}
use Rattle.rss_model.specs.Legal.{table_at}
use Rattle.plain_model.specs.Written.{table_of}
use Rattle.plain_model.proofs.LegalTurns.{made_more}
use Rattle.plain_model.proofs.legality.shown_at.Goals as goal

pub loop-before-init : goal.loop-before-init
unfolding table_at
loop-before-init c = λ key. ap (λ w. table_of w key) c.new-written.ensures.items

pub loop-before-preserved : goal.loop-before-preserved
loop-before-preserved c =
    made_more c.args.h.now c.args.order.now c.loop-before.before c.index-order-before.result
    c.loop-before.written.items c.apply.new.written.items
    (omega (arith, c.loop-before-test.true, c.requires)) c.index-order-before.is
    c.loop-before.invariant c.in_ok-apply.ensures
