use Rattle.std.proofs.Common.{arith}
use Rattle.rss_model.specs.Legal.{table_at}
use Rattle.rss_check.specs.Table.{table_in}
use Rattle.rss_check.proofs.Tables.{empty_shows, met_one_more, table_more, all_met}
use Rattle.rss_check.proofs.legal.first_unmet.Goals as goal

pub loop-call-init : goal.loop-call-init
unfolding table_at
loop-call-init c = record {
  met = λ call i l s. absurd (omega (arith, l));
  made = λ key. empty_shows c.new-table.result c.new-table.ensures.empty key;
}

pub loop-call-preserved : goal.loop-call-preserved
loop-call-preserved c =
    let n = c.loop-call.call-index in
    let call = c.call-item.result in
    record {
      met =
          met_one_more c.args.h.now c.args.c.now n call (table_in c.loop-call.table) c.call-item.is
          c.loop-call.invariant.met c.loop-call.invariant.made (c.in_ok-meets.ensures.0 c.if-not-branch.false);
      made =
          table_more c.args.h.now c.args.c.now n call (table_in c.loop-call.table) (table_in c.apply.new.table)
          c.loop-call-test.true c.call-item.is c.loop-call.invariant.made c.in_ok-apply.ensures;
    }

pub returns-clause-legal : goal.returns-clause-legal
returns-clause-legal c =
    all_met c.args.h.now c.args.c.now c.loop-call.call-index c.loop-call-test.false c.loop-call.invariant.met
