use Rattle.std.proofs.Common.{◌≡◌, ◌+◌, ◌*◌, ◌≤◌, ◌++◌, drop}
use Rattle.script_binding.specs.Mentions.{in_writes}
use Rattle.script_binding.proofs.mention.put_writes.Given as goal

-- what was put and what is left to put are the whole
abbrev pub invariant-loop-write : goal.invariant-loop-write
invariant-loop-write l =
    (l.out.items ++ in_writes l.at (drop l.write-index l.writes) ≡ l.fn.out.items ++ in_writes l.first l.writes)
    × (l.at ≤ l.first + 6 * l.write-index)
