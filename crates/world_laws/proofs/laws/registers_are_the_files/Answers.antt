-- Replicas are asked about registers of the file alone.
use Rattle.world_laws.proofs.FileRegisters.{asks_registers}
use Rattle.world_laws.proofs.laws.registers_are_the_files.Goals as goal

pub returns : goal.returns
returns c = asks_registers
