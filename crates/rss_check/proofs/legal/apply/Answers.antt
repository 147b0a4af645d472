use Rattle.std.proofs.Common.{◌∙◌, sym, arith, ap}
use Rattle.rss_model.specs.Legal.{shown_after}
use Rattle.rss_model.specs.Operation.{values_of, written_by}
use Rattle.plain_model.proofs.Turns.{not_begun}
use Rattle.rss_check.specs.Table.{table_in}
use Rattle.rss_check.proofs.Tables.{made_by_mutation, left_by_read}
use Rattle.rss_check.proofs.legal.apply.Goals as goal
use Rattle.rss_check.proofs.legal.apply.Goals.{else-is_mutation-via-else-is_mutation, else-is_mutation-via-then-is_mutation+in-None-1}

pub returns-in_ok-put_writes : goal.returns-in_ok-put_writes
returns-in_ok-put_writes c =
    made_by_mutation c.args.h.now c.args.call c.in-Some.op.now
    (table_in c.args.table.now) (table_in c.put_writes.new.table) c.in_ok-shown.shown.items
    (sym c.is_mutation.ensures ∙ c.if-is_mutation.true) (sym c.in-Some.ensures)
    c.in_ok-shown.ensures
    (λ key. c.in_ok-put_writes.ensures key ∙ ap (λ s. shown_after (table_in c.args.table.now key) c.args.call (written_by c.in-Some.op.now (values_of s))) c.deref.ensures.value)

pub returns-else-is_mutation : goal.returns-else-is_mutation
returns-else-is_mutation c =
    left_by_read c.args.h.now c.args.call (table_in c.args.table.now)
    (elim c.else-is_mutation.branch [
      | else-is_mutation-via-else-is_mutation w ↦ sym c.is_mutation.ensures ∙ w.if-is_mutation.false
      | else-is_mutation-via-then-is_mutation+in-None-1 w ↦ not_begun c.args.h.now c.args.call (grind (arith, w.op_of.ensures))
    ])
