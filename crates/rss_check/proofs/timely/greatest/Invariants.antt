use Rattle.std.proofs.Common.{◌≡◌, max, drop}
use Rattle.rss_check.specs.Passes.{greatest_by}
use Rattle.rss_check.proofs.timely.greatest.Given as goal

abbrev pub invariant-loop-key : goal.invariant-loop-key
invariant-loop-key l = max l.greatest (greatest_by l.tops.keys (drop l.key-index l.keys)) ≡ greatest_by l.tops.keys l.keys
