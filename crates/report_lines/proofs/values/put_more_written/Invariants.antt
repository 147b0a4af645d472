use Rattle.std.proofs.Common.{◌≡◌, ◌++◌, drop}
use Rattle.plain_model.specs.Written.{values_written}
use Rattle.rss_model.specs.Operation.{values_of}
use Rattle.report_lines.specs.Pieces.{more_writes}
use Rattle.report_lines.proofs.values.put_more_written.Given as goal

abbrev pub invariant-loop-write : goal.invariant-loop-write
invariant-loop-write l =
    l.fn.out.items ++ more_writes l.config (values_written l.rest (values_of l.reply))
    ≡ l.out.items ++ more_writes l.config (values_written (drop l.write-index l.rest) (values_of l.reply))
