use Rattle.std.proofs.Common.{◌≡◌, drop}
use Rattle.rss_names.specs.declared.service.Key.{Key}
use Rattle.rss_check.specs.Table.{number_of_key}
use Rattle.rss_check.specs.Passes.{kept_of_key, raised_by}
use Rattle.rss_check.proofs.timely.raise_all.Given as goal

abbrev pub invariant-loop-write : goal.invariant-loop-write
invariant-loop-write l = (other : Key) →
    raised_by (kept_of_key l.keys (number_of_key other)) other (drop l.write-index l.writes) l.place ≡
    raised_by (kept_of_key l.fn.keys (number_of_key other)) other l.writes l.place
