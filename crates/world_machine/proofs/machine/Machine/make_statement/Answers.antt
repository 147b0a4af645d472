use Rattle.std.proofs.Common.{refl, sym, ap, ◌∙◌}
use Rattle.rss_machine.specs.Effect.{makes}
use Rattle.world_machine.specs.Machine.{state_of}
use Rattle.world_machine.proofs.Makes.{ready_for}
use Rattle.world_machine.proofs.machine.Machine.make_statement.Goals as goal

pub returns-in-Spawn-clause-effect : goal.returns-in-Spawn-clause-effect
returns-in-Spawn-clause-effect c = c.spawn.ensures.effect c.args.at ∙ ap (makes c.args.self.now.config (state_of c.args.self.now) c.args.stage c.args.at) (sym c.in-Spawn.is ∙ c.in-Some.ensures.some)

pub returns-in-Wait-clause-effect : goal.returns-in-Wait-clause-effect
returns-in-Wait-clause-effect c = c.wait.ensures.effect c.args.at ∙ ap (makes c.args.self.now.config (state_of c.args.self.now) c.args.stage c.args.at) (sym c.in-Wait.is ∙ c.in-Some.ensures.some)

pub returns-in-Put-clause-effect : goal.returns-in-Put-clause-effect
returns-in-Put-clause-effect c = c.put.ensures.effect c.args.at ∙ ap (makes c.args.self.now.config (state_of c.args.self.now) c.args.stage c.args.at) (sym c.in-Put.is ∙ c.in-Some.ensures.some)

pub returns-in-Take-clause-effect : goal.returns-in-Take-clause-effect
returns-in-Take-clause-effect c = c.take_from.ensures.effect c.args.at ∙ ap (makes c.args.self.now.config (state_of c.args.self.now) c.args.stage c.args.at) (sym c.in-Take.is ∙ c.in-Some.ensures.some)

pub returns-in-Close-clause-effect : goal.returns-in-Close-clause-effect
returns-in-Close-clause-effect c = c.close.ensures.effect c.args.at ∙ ap (makes c.args.self.now.config (state_of c.args.self.now) c.args.stage c.args.at) (sym c.in-Close.is ∙ c.in-Some.ensures.some)

pub spawn-requires-clause-ready : goal.spawn-requires-clause-ready
spawn-requires-clause-ready c = ready_for c.args.self.now c.args.stage c.args.at _ _ (sym c.in-Spawn.is ∙ c.in-Some.ensures.some) refl c.requires.room

pub wait-requires-clause-ready : goal.wait-requires-clause-ready
wait-requires-clause-ready c = ready_for c.args.self.now c.args.stage c.args.at _ _ (sym c.in-Wait.is ∙ c.in-Some.ensures.some) refl c.requires.room

pub put-requires-clause-ready : goal.put-requires-clause-ready
put-requires-clause-ready c = ready_for c.args.self.now c.args.stage c.args.at _ _ (sym c.in-Put.is ∙ c.in-Some.ensures.some) refl c.requires.room

pub take_from-requires-clause-ready : goal.take_from-requires-clause-ready
take_from-requires-clause-ready c = ready_for c.args.self.now c.args.stage c.args.at _ _ (sym c.in-Take.is ∙ c.in-Some.ensures.some) refl c.requires.room

pub close-requires-clause-ready : goal.close-requires-clause-ready
close-requires-clause-ready c = ready_for c.args.self.now c.args.stage c.args.at _ _ (sym c.in-Close.is ∙ c.in-Some.ensures.some) refl c.requires.room
