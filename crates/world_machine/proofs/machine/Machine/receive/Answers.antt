use Rattle.std.proofs.Common.{sym, ◌∙◌}
use Rattle.world_machine.proofs.machine.Machine.receive.Goals as goal

pub hear-requires : goal.hear-requires
hear-requires c = record { can = c.requires.can c.in-Some.slot (sym c.awaited.ensures.awaited ∙ c.in-Some.is) }
