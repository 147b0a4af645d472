use Rattle.std.proofs.Common.{◌≡◌, ℕ}
use Rattle.replica_disk.specs.Registers.{registers_of}
use Rattle.replica_disk.proofs.durable.read_registers.Given as goal

-- the front was read, and the disk is as it was
abbrev pub invariant-loop-index : goal.invariant-loop-index
invariant-loop-index g l = record {
  held : l.held.items ≡ registers_of (g.D.Disk.bytes l.fn.disk) l.index;
  bytes : g.D.Disk.bytes l.disk ≡ g.D.Disk.bytes l.fn.disk;
  loose : (p : ℕ) → g.D.Disk.loose l.disk p ≡ g.D.Disk.loose l.fn.disk p;
  made : g.D.Disk.made l.disk ≡ g.D.Disk.made l.fn.disk;
  identity : g.D.Disk.identity l.disk ≡ g.D.Disk.identity l.fn.disk;
  faultless : g.D.Disk.disk_faults l.disk ≡ g.D.Disk.disk_faults l.fn.disk;
}
