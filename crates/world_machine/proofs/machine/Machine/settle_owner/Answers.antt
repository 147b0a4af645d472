use Rattle.std.proofs.Common.{ap}
use Rattle.owner_turns.specs.Whole.{ending_of}
use Rattle.world_machine.specs.declared.machine.Machine.{Machine}
use Rattle.world_machine.specs.Machine.{state_of}
use Rattle.world_machine.proofs.Turned.{settled}
use Rattle.world_machine.proofs.machine.Machine.settle_owner.Goals as goal

pub returns-clause-settles : goal.returns-clause-settles
returns-clause-settles c =
    settled c.args.self.now.config c.turn_by_settling-end.new.self.config (state_of c.args.self.now) (state_of c.turn_by_settling-end.new.self) (state_of c.finish.new.self) c.args.owner c.args.at (ending_of c.turn_by_settling-end.result)
    (ap (λ (m : Machine). m.config) c.turn_by_settling-end.ensures.others) c.requires.can.may.begun.1 c.turn_by_settling-end.ensures.turns c.turn_by_settling-end.ensures.ending c.finish.ensures.ends
