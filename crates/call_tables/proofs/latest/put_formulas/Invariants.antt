use Rattle.std.proofs.Common.{◌≡◌, drop}
use Rattle.rss_names.specs.declared.service.Key.{Key}
use Rattle.rss_model.specs.Operation.{values_of}
use Rattle.plain_model.specs.Written.{shown_over, logged, values_written}
use Rattle.call_tables.specs.Cells.{table_in}
use Rattle.call_tables.proofs.latest.put_formulas.Given as goal

-- the writes that are left lead from here to the same table
abbrev pub invariant-loop-write : goal.invariant-loop-write
invariant-loop-write l =
    (key : Key) → shown_over (table_in l.rows.items key) (logged l.call (values_written (drop l.write-index l.writes) (values_of l.shown))) ≡ shown_over (table_in l.fn.rows.items key) (logged l.call (values_written l.writes (values_of l.shown)))
