use Rattle.std.proofs.Common.{sym, ap, ◌∙◌}
use Rattle.rss_machine.specs.Refusal.{kind_refusal as kind_refusal_of}
use Rattle.world_machine.specs.Machine.{state_of}
use Rattle.world_machine.proofs.machine.Machine.kind_refusal.Goals as goal

pub returns-in-Kill : goal.returns-in-Kill
returns-in-Kill c = sym (c.kill_refusal.ensures c.args.at) ∙ ap (kind_refusal_of c.args.self.now.config (state_of c.args.self.now) c.args.at) (sym c.in-Kill.is)
