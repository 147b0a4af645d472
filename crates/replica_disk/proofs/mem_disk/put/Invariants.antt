use Rattle.std.proofs.Common.{◌≡◌, ℕ, ◌+◌, ◌<◌, ◌≤◌, length, slice_index}
use Rattle.replica_disk.proofs.mem_disk.put.Given as goal

-- the front stands in its place, and all else is as it was
abbrev pub invariant-loop-k : goal.invariant-loop-k
invariant-loop-k l = record {
  below : (p : ℕ) → p < l.at → slice_index l.bytes p ≡ slice_index l.fn.bytes p;
  above : (p : ℕ) → l.at + l.k ≤ p → slice_index l.bytes p ≡ slice_index l.fn.bytes p;
  written : (j : ℕ) → j < l.k → slice_index l.bytes (l.at + j) ≡ slice_index l.from j;
}
