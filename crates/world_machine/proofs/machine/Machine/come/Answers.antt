use Rattle.world_machine.specs.Machine.{state_of}
use Rattle.std.proofs.Common.{sym, ◌∙◌}
use Rattle.world_machine.proofs.Comes.{reply_came, reply_there}
use Rattle.world_machine.proofs.machine.Machine.come.Goals as goal

pub receive-requires-clause-can : goal.receive-requires-clause-can
receive-requires-clause-can c = c.requires.can.heard (reply_there c.args.self.now.traffic.traffic.net c.args.number c.args.envelope.now c.requires.can.sent (sym c.is_request.ensures ∙ c.if-is_request.false))

pub returns-else-is_request-clause-effect : goal.returns-else-is_request-clause-effect
returns-else-is_request-clause-effect c = reply_came c.args.self.now.config (state_of c.args.self.now) (state_of c.receive.new.self) c.args.number c.args.at c.args.envelope.now c.requires.can.sent (sym c.is_request.ensures ∙ c.if-is_request.false) c.receive.ensures.effect
