use Rattle.std.proofs.Common.{◌≡◌, ℕ, ◌+◌, ◌-◌, length}
use Rattle.replica_disk.specs.Disks.{with_range}
use Rattle.replica_disk.specs.Memory.{is_loose}
use Rattle.replica_disk.proofs.mem_disk.mark.Given as goal

-- the front of the range is marked
abbrev pub invariant-loop-place : goal.invariant-loop-place
invariant-loop-place l = (p : ℕ) → is_loose l.loose p ≡ with_range (is_loose l.fn.loose) l.at (l.place - l.at) p
