-- A disk in memory that stops at most once, over several calls.
use Rattle.std.specs.Prelude.{ℕ, ◌≡◌, ◌+◌, ◌≤◌}
use Rattle.replica_disk.specs.Disks.{MadeCalls}
use Rattle.replica_disk.specs.Memory.{Memory, stops_met}

-- from one disk to another: it is the same; where it has not stopped in the end, it had not before, and made so many
-- calls; where it stopped on the way, it did so at one of so many calls
pub record GoesOn (before after : Memory) (n : ℕ) : Type 0 where
  pub same : after.stop ≡ before.stop
  pub quiet : stops_met after ≡ 0 → (stops_met before ≡ 0) × MadeCalls before.calls after.calls n
  pub stopped : stops_met before ≡ 0 → stops_met after ≡ 1 → before.stop ≤ before.calls + n
