use Rattle.std.proofs.Common.{◌≡◌, ℕ, ◌<◌, false}
use Rattle.replica_disk.specs.Memory.{is_loose}
use Rattle.replica_disk.proofs.mem_disk.settle.Given as goal

-- nothing of the front is loose
abbrev pub invariant-loop-place : goal.invariant-loop-place
invariant-loop-place l = (p : ℕ) → p < l.place-index → is_loose l.loose p ≡ false
