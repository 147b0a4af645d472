use Rattle.std.proofs.Common.{◌∙◌, sym, arith, ap, ◌++◌}
use Rattle.plain_model.proofs.Turns.{made_by_mutation, left_by_read, not_begun}
use Rattle.rss_model.specs.Operation.{values_of, written_by}
use Rattle.plain_model.specs.Written.{logged, table_of}
use Rattle.rss_model.specs.Legal.{shown_by}
use Rattle.plain_model.proofs.legality.apply.Goals as goal
use Rattle.plain_model.proofs.legality.apply.Goals.{else-is_mutation-via-else-is_mutation, else-is_mutation-via-then-is_mutation+in-None-1}

pub returns-in_ok-add_writes : goal.returns-in_ok-add_writes
returns-in_ok-add_writes c =
    made_by_mutation c.args.h.now c.args.call c.in-Some.op.now c.args.written.now.items
    c.add_writes.new.written.items c.in_ok-shown.shown.items
    (sym c.is_mutation.ensures ∙ c.if-is_mutation.true) (sym c.in-Some.ensures)
    (c.in_ok-shown.ensures ∙ ap (λ w. shown_by (table_of w) c.in-Some.op.now) c.deref.ensures.value)
    (c.in_ok-add_writes.ensures ∙ ap (λ s. c.args.written.now.items ++ logged c.args.call (written_by c.in-Some.op.now (values_of s))) c.deref-2.ensures.value)

pub returns-else-is_mutation : goal.returns-else-is_mutation
returns-else-is_mutation c =
    left_by_read c.args.h.now c.args.call c.args.written.now.items
    (elim c.else-is_mutation.branch [
      | else-is_mutation-via-else-is_mutation w ↦ sym c.is_mutation.ensures ∙ w.if-is_mutation.false
      | else-is_mutation-via-then-is_mutation+in-None-1 w ↦ not_begun c.args.h.now c.args.call (grind (arith, w.op_of.ensures))
    ])
