use Rattle.std.proofs.Common.{◌∙◌}
use Rattle.indexmap.specs.IndexMap.{get}
use Rattle.rss_model.specs.Operation.{values_of}
use Rattle.rss_check.specs.Table.{number_of_key, same_number, table_in}
use Rattle.rss_check.proofs.Tables.{key_shown, formula_more}
use Rattle.rss_check.proofs.table.put_formulas.Goals as goal

pub loop-write-preserved : goal.loop-write-preserved
loop-write-preserved c = λ key.
    formula_more c.args.writes.now (values_of c.args.shown.now) c.loop-write.write-index c.args.call
    c.formula_value-value.result _ (table_in c.loop-write.table) (table_in c.put_write.new.table)
    c.loop-write-test.true c.formula_value-value.ensures
    (λ other. key_shown other (get same_number c.loop-write.table (number_of_key other)))
    c.in_ok-put_write.ensures key ∙
    c.loop-write.invariant key
