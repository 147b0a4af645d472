use Rattle.std.proofs.Common.{sym, ap, subst, ◌∙◌}
use Rattle.rss_machine.specs.Effect.{effect}
use Rattle.owner_sessions.specs.Boxed.{IsEmptyBox}
use Rattle.world_machine.specs.Machine.{state_of}
use Rattle.world_machine.specs.Steps.{CanDo}
use Rattle.world_machine.proofs.machine.Machine.make.Goals as goal

pub act-requires : goal.act-requires
act-requires c = record { can = subst (CanDo c.args.self.now c.args.at) c.in-Act.is c.requires.can; quiet = c.requires.quiet }

pub deliver-requires : goal.deliver-requires
deliver-requires c = record { can = subst (CanDo c.args.self.now c.args.at) c.in-Go.is c.requires.can }

pub repeat-requires : goal.repeat-requires
repeat-requires c = record { can = subst (CanDo c.args.self.now c.args.at) c.in-Again.is c.requires.can }

pub lose-requires : goal.lose-requires
lose-requires c = record { can = subst (CanDo c.args.self.now c.args.at) c.in-Lose.is c.requires.can }

pub kill-requires : goal.kill-requires
kill-requires c = let can = subst (CanDo c.args.self.now c.args.at) c.in-Kill.is c.requires.can in record { owners = can.owners; room = can.room }

pub settle-requires : goal.settle-requires
settle-requires c = record { can = subst (CanDo c.args.self.now c.args.at) c.in-Stub.is c.requires.can; quiet = c.requires.quiet }

pub returns-in-Act-clause-effect : goal.returns-in-Act-clause-effect
unfolding effect
returns-in-Act-clause-effect c = c.act.ensures.effect ∙ ap (effect c.args.self.now.config (state_of c.args.self.now) c.args.at) (sym c.in-Act.is)

pub returns-in-Go-clause-effect : goal.returns-in-Go-clause-effect
unfolding effect
returns-in-Go-clause-effect c = c.deliver.ensures.effect ∙ ap (effect c.args.self.now.config (state_of c.args.self.now) c.args.at) (sym c.in-Go.is)

pub returns-in-Again-clause-effect : goal.returns-in-Again-clause-effect
unfolding effect
returns-in-Again-clause-effect c = c.repeat.ensures.effect ∙ ap (effect c.args.self.now.config (state_of c.args.self.now) c.args.at) (sym c.in-Again.is)

pub returns-in-Lose-clause-effect : goal.returns-in-Lose-clause-effect
unfolding effect
returns-in-Lose-clause-effect c = c.lose.ensures.effect ∙ ap (effect c.args.self.now.config (state_of c.args.self.now) c.args.at) (sym c.in-Lose.is)

pub returns-in-Kill-clause-effect : goal.returns-in-Kill-clause-effect
unfolding effect
returns-in-Kill-clause-effect c = c.kill.ensures.effect ∙ ap (effect c.args.self.now.config (state_of c.args.self.now) c.args.at) (sym c.in-Kill.is)

pub returns-in-Stub-clause-effect : goal.returns-in-Stub-clause-effect
unfolding effect
returns-in-Stub-clause-effect c = c.settle.ensures.effect ∙ ap (effect c.args.self.now.config (state_of c.args.self.now) c.args.at) (sym c.in-Stub.is)

pub returns-in-Lose-clause-quiet : goal.returns-in-Lose-clause-quiet
returns-in-Lose-clause-quiet c = subst IsEmptyBox (sym c.lose.ensures.outbox) c.requires.quiet

pub returns-in-Kill-clause-quiet : goal.returns-in-Kill-clause-quiet
returns-in-Kill-clause-quiet c = subst IsEmptyBox (sym c.kill.ensures.outbox) c.requires.quiet
