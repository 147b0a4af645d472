-- Dependencies are on registers of the file.
use Rattle.ready_laws.proofs.Stubs.{registers_run}
use Rattle.ready_laws.proofs.laws.dependencies_are_on_registers.Goals as goal

pub returns : goal.returns
returns g = registers_run
