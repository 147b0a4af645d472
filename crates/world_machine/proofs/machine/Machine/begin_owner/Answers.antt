use Rattle.std.proofs.Common.{ap}
use Rattle.owner_turns.specs.Whole.{ending_of}
use Rattle.world_machine.specs.declared.machine.Machine.{Machine}
use Rattle.world_machine.specs.Machine.{state_of}
use Rattle.world_machine.proofs.Turned.{begun}
use Rattle.world_machine.proofs.machine.Machine.begin_owner.Goals as goal

pub returns-clause-begins : goal.returns-clause-begins
returns-clause-begins c =
    begun c.args.self.now.config c.turn_by_beginning-end.new.self.config (state_of c.args.self.now) (state_of c.turn_by_beginning-end.new.self) (state_of c.finish.new.self) c.args.owner c.args.at (ending_of c.turn_by_beginning-end.result)
    (ap (λ (m : Machine). m.config) c.turn_by_beginning-end.ensures.others) c.requires.can.may.begun.1 c.turn_by_beginning-end.ensures.turns c.turn_by_beginning-end.ensures.ending c.finish.ensures.ends
