use Rattle.std.proofs.Common.{◌≡◌, ◌+◌, ◌*◌, ◌≤◌, ◌++◌, drop}
use Rattle.script_binding.specs.Mentions.{written_keys}
use Rattle.script_binding.proofs.mention.put_written_keys.Given as goal

-- what was put and what is left to put are the whole
abbrev pub invariant-loop-write : goal.invariant-loop-write
invariant-loop-write l =
    (l.out.items ++ written_keys l.at (drop l.write-index l.writes) ≡ l.fn.out.items ++ written_keys l.first l.writes)
    × (l.at ≤ l.first + 6 * l.write-index)
