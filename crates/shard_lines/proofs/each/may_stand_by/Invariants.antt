use Rattle.std.proofs.Common.{◌≡◌, drop}
use Rattle.shard_lines.specs.Flat.{may_stand_by}
use Rattle.shard_lines.proofs.each.may_stand_by.Given as goal

abbrev pub invariant-loop-one : goal.invariant-loop-one
invariant-loop-one l = may_stand_by l.time (drop l.one-index l.skipped) ≡ may_stand_by l.time l.skipped
