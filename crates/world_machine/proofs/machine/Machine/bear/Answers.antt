use Rattle.std.proofs.Common.{refl}
use Rattle.world_machine.specs.Clock.{clock_in}
use Rattle.world_machine.proofs.Losing.{lost_part}
use Rattle.world_machine.proofs.machine.Machine.bear.Goals as goal

pub lose-requires-clause-pending : goal.lose-requires-clause-pending
lose-requires-clause-pending c = c.requires.can.pending

pub lose-requires-clause-ready : goal.lose-requires-clause-ready
lose-requires-clause-ready c = c.requires.can.may

pub lose-requires-clause-room : goal.lose-requires-clause-room
lose-requires-clause-room c = c.requires.can.messages

pub lose-requires-clause-again : goal.lose-requires-clause-again
lose-requires-clause-again c = c.requires.can.again

pub returns-clause-state : goal.returns-clause-state
returns-clause-state c = lost_part c.args.self.now.config (clock_in c.args.self.now.clock) c.args.self.now.staging.staging c.args.self.now.traffic.traffic c.lose.new.self.traffic c.args.self.now.stores.stores c.args.number c.lose.ensures.lost

pub returns-clause-target : goal.returns-clause-target
returns-clause-target c = c.lose.ensures.target

pub returns-clause-traffic : goal.returns-clause-traffic
returns-clause-traffic c = c.lose.ensures.lost

pub returns-clause-free : goal.returns-clause-free
returns-clause-free c = c.lose.ensures.free

pub returns-clause-next : goal.returns-clause-next
returns-clause-next c = c.lose.ensures.next

pub returns-clause-outbox : goal.returns-clause-outbox
returns-clause-outbox c = c.lose.ensures.outbox

pub returns-clause-others : goal.returns-clause-others
returns-clause-others c = refl
