use Rattle.world_machine.specs.Clock.{clock_in}
use Rattle.world_machine.proofs.Turned.{turned, turned_begun}
use Rattle.world_machine.proofs.machine.Machine.turn_by_acting.Goals as goal

pub returns-clause-turns : goal.returns-clause-turns
returns-clause-turns c = turned (clock_in c.args.self.now.clock) c.args.self.now.staging.staging c.args.self.now.stores.stores c.args.self.now.traffic c.act.new.self c.args.owner _ c.act.ensures.taken

pub returns-clause-begun : goal.returns-clause-begun
returns-clause-begun c = turned_begun c.args.self.now.traffic c.act.new.self c.args.owner _ c.act.ensures.taken c.requires.can.may.begun
