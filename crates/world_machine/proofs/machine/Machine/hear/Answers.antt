use Rattle.std.proofs.Common.{ap}
use Rattle.owner_turns.specs.Whole.{ending_of}
use Rattle.world_machine.specs.declared.machine.Machine.{Machine}
use Rattle.world_machine.specs.Machine.{state_of}
use Rattle.world_traffic.specs.Turned.{said_in}
use Rattle.world_machine.proofs.Turned.{heard}
use Rattle.world_machine.proofs.machine.Machine.hear.Goals as goal

pub returns-clause-hears : goal.returns-clause-hears
returns-clause-hears c =
    heard c.args.self.now.config c.turn_by_hearing-end.new.self.config (state_of c.args.self.now) (state_of c.turn_by_hearing-end.new.self) (state_of c.finish.new.self) c.args.owner c.args.slot c.args.at (said_in c.args.self.now.traffic.traffic.net c.args.message) (ending_of c.turn_by_hearing-end.result)
    (ap (λ (m : Machine). m.config) c.turn_by_hearing-end.ensures.others) c.requires.can.may.begun.1 c.turn_by_hearing-end.ensures.turns c.turn_by_hearing-end.ensures.ending c.finish.ensures.ends
