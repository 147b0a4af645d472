use Rattle.world_machine.specs.Clock.{clock_in}
use Rattle.world_machine.proofs.Makes.{exited}
use Rattle.world_machine.proofs.machine.Machine.exit.Goals as goal

pub returns-clause-exits : goal.returns-clause-exits
returns-clause-exits c = exited c.args.self.now.config (clock_in c.args.self.now.clock) c.args.self.now.staging.staging c.exit.new.self.staging c.args.self.now.traffic.traffic c.args.self.now.stores.stores c.args.stage c.exit.ensures
