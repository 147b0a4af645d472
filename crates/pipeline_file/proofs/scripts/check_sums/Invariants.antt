use Rattle.std.proofs.Common.{◌≡◌, ◌+◌, true, drop}
use Rattle.script_binding.specs.Counts.{nothing, is_within}
use Rattle.pipeline_file.specs.Scripts.{sums_from}
use Rattle.pipeline_file.proofs.scripts.check_sums.Given as goal

-- the sums so far are within the limits, and what the rest says is what all say
abbrev pub invariant-loop-index : goal.invariant-loop-index
invariant-loop-index l = (sums_from l.sums (l.index + 1) (drop l.index l.bodies) ≡ sums_from nothing 1 l.bodies) × (is_within l.sums ≡ true)
