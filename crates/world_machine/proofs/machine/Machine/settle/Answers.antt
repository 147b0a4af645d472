use Rattle.std.proofs.Common.{sym, ◌∙◌}
use Rattle.world_machine.proofs.machine.Machine.settle.Goals as goal

pub settle_owner-requires : goal.settle_owner-requires
settle_owner-requires c = record { can = c.requires.can.takes c.in-Some.stub (sym c.stub_of.ensures ∙ c.in-Some.is) }
