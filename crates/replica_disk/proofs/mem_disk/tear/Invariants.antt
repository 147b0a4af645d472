use Rattle.std.proofs.Common.{◌≡◌, ℕ, ◌<◌, ◌≤◌, slice_index}
use Rattle.replica_disk.specs.Memory.{byte_left}
use Rattle.replica_disk.proofs.mem_disk.tear.Given as goal

-- the front is torn, and the rest as it was
abbrev pub invariant-loop-place : goal.invariant-loop-place
invariant-loop-place l = record {
  torn : (p : ℕ) → p < l.place → slice_index l.bytes p ≡ byte_left l.fn.bytes l.loose l.stop p;
  rest : (p : ℕ) → l.place ≤ p → slice_index l.bytes p ≡ slice_index l.fn.bytes p;
}
