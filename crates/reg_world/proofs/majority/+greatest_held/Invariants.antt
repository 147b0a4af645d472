use Rattle.std.proofs.Common.{length}
use Rattle.reg_world.proofs.majority.+greatest_held.Given as goal

abbrev pub decreases-greatest_held : goal.decreases-greatest_held
decreases-greatest_held l = length l.some.now
