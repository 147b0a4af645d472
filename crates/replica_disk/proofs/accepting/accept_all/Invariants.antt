use Rattle.std.proofs.Common.{◌≡◌, length, take}
use Rattle.rss_tables.specs.ReplicaRow.{accept_all}
use Rattle.replica_disk.specs.Disks.{MadeCalls}
use Rattle.replica_disk.specs.Registers.{IsSettled, gates_of}
use Rattle.replica_disk.specs.Accepts.{cost_all, times_all}
use Rattle.replica_disk.proofs.accepting.accept_all.Given as goal

-- the front has been accepted
abbrev pub invariant-loop-dep : goal.invariant-loop-dep
invariant-loop-dep g l =
    let bytes = g.D.Disk.bytes in
    let loose = g.D.Disk.loose in
    let gates = gates_of (bytes l.fn.disk) (length l.fn.held) in
    record {
      same_length : length l.held ≡ length l.fn.held;
      accepted : l.held ≡ accept_all l.fn.held (take l.dep-index l.deps);
      settled : IsSettled (bytes l.disk) (loose l.disk) l.held;
      times : gates_of (bytes l.disk) (length l.fn.held) ≡ times_all l.fn.held gates (take l.dep-index l.deps);
      made : MadeCalls (g.D.Disk.made l.fn.disk) (g.D.Disk.made l.disk) (cost_all l.fn.held gates (take l.dep-index l.deps));
      size : length (bytes l.disk) ≡ length (bytes l.fn.disk);
      identity : g.D.Disk.identity l.disk ≡ g.D.Disk.identity l.fn.disk;
      faultless : g.D.Disk.disk_faults l.disk ≡ g.D.Disk.disk_faults l.fn.disk;
    }
