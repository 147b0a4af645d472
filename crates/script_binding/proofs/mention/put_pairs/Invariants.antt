use Rattle.std.proofs.Common.{◌≡◌, ◌+◌, ◌*◌, ◌≤◌, ◌++◌, drop}
use Rattle.script_binding.specs.Mentions.{in_pairs}
use Rattle.script_binding.proofs.mention.put_pairs.Given as goal

-- what was put and what is left to put are the whole
abbrev pub invariant-loop-pair : goal.invariant-loop-pair
invariant-loop-pair l =
    (l.out.items ++ in_pairs l.at (drop l.pair-index l.pairs) ≡ l.fn.out.items ++ in_pairs 1 l.pairs)
    × (l.at ≤ 1 + 3 * l.pair-index)
