use Rattle.std.proofs.Common.{◌≡◌, drop}
use Rattle.shard_lines.specs.Flat.{has_flat}
use Rattle.shard_lines.proofs.each.place_of.Given as goal

-- no line so far is of the shard
abbrev pub invariant-loop-at : goal.invariant-loop-at
invariant-loop-at l = has_flat l.lines l.shard ≡ has_flat (drop l.at l.lines) l.shard
