use Rattle.std.proofs.Common.{◌≡◌, drop}
use Rattle.rss_names.specs.declared.service.Key.{Key}
use Rattle.rss_model.specs.Legal.{shown_after}
use Rattle.rss_model.specs.Operation.{values_of}
use Rattle.plain_model.specs.Written.{values_written}
use Rattle.rss_check.specs.Table.{table_in}
use Rattle.rss_check.proofs.table.put_formulas.Given as goal

-- the writes that were made and those that are left are the whole
abbrev pub invariant-loop-write : goal.invariant-loop-write
invariant-loop-write l = (key : Key) →
    shown_after (table_in l.table key) l.call (values_written (drop l.write-index l.writes) (values_of l.shown)) ≡
    shown_after (table_in l.fn.table key) l.call (values_written l.writes (values_of l.shown))
