use Rattle.std.proofs.Common.{◌≡◌, ◌+◌, ◌*◌, ◌≤◌, drop}
use Rattle.script_binding.specs.Mentions.{behind_writes}
use Rattle.script_binding.proofs.limits.behind_writes.Given as goal

-- what is behind the writes that are left is behind all
abbrev pub invariant-loop-write : goal.invariant-loop-write
invariant-loop-write l =
    (behind_writes l.at (drop l.write-index l.writes) ≡ behind_writes l.first l.writes)
    × (l.at ≤ l.first + 6 * l.write-index)
