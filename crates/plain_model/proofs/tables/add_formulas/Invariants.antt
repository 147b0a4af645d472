use Rattle.std.proofs.Common.{◌≡◌, ◌++◌, drop}
use Rattle.rss_model.specs.Operation.{values_of}
use Rattle.plain_model.specs.Written.{logged, values_written}
use Rattle.plain_model.proofs.tables.add_formulas.Given as goal

-- the writes that were made and those that are left are the whole
abbrev pub invariant-loop-write : goal.invariant-loop-write
invariant-loop-write l =
    l.written.items ++
    logged l.call (values_written (drop l.write-index l.writes) (values_of l.shown)) ≡
    l.fn.written.items ++ logged l.call (values_written l.writes (values_of l.shown))
