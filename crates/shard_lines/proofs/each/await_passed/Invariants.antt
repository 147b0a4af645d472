use Rattle.std.proofs.Common.{◌≡◌, ◌++◌, map, take, drop, length}
use Rattle.shard_lines.specs.Flat.{awaiting_passed, AreSkips}
use Rattle.shard_lines.proofs.each.await_passed.Given as goal

abbrev pub invariant-loop-line : goal.invariant-loop-line
invariant-loop-line l = record {
  items : l.line-items ≡ map (awaiting_passed l.skipped l.time) (take l.line-index l.fn.lines.items) ++ drop l.line-index l.fn.lines.items;
  inside : AreSkips (length l.skipped) l.line-items;
}
