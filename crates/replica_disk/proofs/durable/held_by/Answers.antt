use Rattle.std.proofs.Common.{◌≡◌, ℕ, List, ap, ◌∙◌}
use Rattle.replica_disk.specs.Disks.{NothingLoose}
use Rattle.replica_disk.specs.Registers.{registers_of}
use Rattle.replica_disk.proofs.Opening.{at_error, sync_same}
use Rattle.replica_disk.proofs.durable.held_by.Goals as goal

pub returns-in-Err-clause-same : goal.returns-in-Err-clause-same
returns-in-Err-clause-same g c = λ nothing. sync_same _ _ _ c.args.registers c.in-Err.ensures.torn nothing

pub returns-in-Ok-clause-same : goal.returns-in-Ok-clause-same
returns-in-Ok-clause-same g c =
    let same : NothingLoose (g.D.Disk.loose c.args.disk.now)
    → registers_of (g.D.Disk.bytes c.read_registers.new.disk) c.args.registers ≡ registers_of (g.D.Disk.bytes c.args.disk.now) c.args.registers =
    λ _. ap (λ (bytes : List ℕ). registers_of bytes c.args.registers) (c.read_registers.ensures.bytes ∙ c.in-Ok.ensures.same) in
    at_error _ _ same
