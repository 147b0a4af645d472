use Rattle.std.proofs.Common.{ap}
use Rattle.owner_turns.specs.Whole.{ending_of}
use Rattle.world_machine.specs.declared.machine.Machine.{Machine}
use Rattle.world_machine.specs.Machine.{state_of}
use Rattle.owner_turns.specs.Going.{line_of}
use Rattle.rss_machine.specs.State.{owner_at}
use Rattle.world_machine.proofs.Turned.{acted}
use Rattle.world_machine.proofs.machine.Machine.act_owner.Goals as goal

pub turn_by_acting-end-requires : goal.turn_by_acting-end-requires
turn_by_acting-end-requires c = record { can = c.requires.can.proceeds c.waking_of-line.result c.waking_of-line.ensures.place c.waking_of-line.ensures.line }

pub returns-clause-acts : goal.returns-clause-acts
returns-clause-acts c =
    acted c.args.self.now.config c.turn_by_acting-end.new.self.config (state_of c.args.self.now) (state_of c.turn_by_acting-end.new.self) (state_of c.finish.new.self) c.args.owner c.args.at (line_of (owner_at (state_of c.args.self.now) c.args.owner).session c.waking_of-line.result) (ending_of c.turn_by_acting-end.result)
    (ap (λ (m : Machine). m.config) c.turn_by_acting-end.ensures.others) (c.requires.can.proceeds c.waking_of-line.result c.waking_of-line.ensures.place c.waking_of-line.ensures.line).may.begun.1 c.waking_of-line.ensures.line c.turn_by_acting-end.ensures.turns c.turn_by_acting-end.ensures.ending c.finish.ensures.ends
