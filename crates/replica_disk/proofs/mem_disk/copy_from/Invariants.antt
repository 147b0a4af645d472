use Rattle.std.proofs.Common.{◌≡◌, ℕ, ◌+◌, ◌<◌, length, slice_index}
use Rattle.replica_disk.proofs.mem_disk.copy_from.Given as goal

-- the front is copied
abbrev pub invariant-loop-k : goal.invariant-loop-k
invariant-loop-k l = (j : ℕ) → j < l.k → slice_index l.into j ≡ slice_index l.bytes (l.at + j)
