use Rattle.world_machine.proofs.machine.Machine.count.Goals as goal

pub returns-clause-can : goal.returns-clause-can
returns-clause-can c = c.requires.can.kind c.tick.new.self c.tick.ensures
