use Rattle.std.proofs.Common.{◌≡◌, drop}
use Rattle.rss_tables.specs.Locks.{has_key}
use Rattle.two_phase.proofs.asking.has_key.Given as goal

abbrev pub invariant-loop-one : goal.invariant-loop-one
invariant-loop-one l = has_key (drop l.one-index l.keys) l.key ≡ has_key l.keys l.key
