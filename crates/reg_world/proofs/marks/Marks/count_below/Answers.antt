use Rattle.std.proofs.Common.{sym}
use Rattle.reg_world.proofs.Rising.{none-below}
use Rattle.reg_world.proofs.marks.Marks.count_below.Goals as goal

pub returns-in-None : goal.returns-in-None
returns-in-None c = sym (none-below c.args.self.now.marks c.args.stamp c.in-None.ensures)
