use Rattle.serial_run.specs.Made.{IsUnderWay}
use Rattle.serial_run.proofs.making.make_steps.Given as goal

abbrev pub decreases-loop-left : goal.decreases-loop-left
decreases-loop-left l = l.left

abbrev pub invariant-loop-left : goal.invariant-loop-left
invariant-loop-left l = IsUnderWay l.fn.world.config l.left l.world l.clock l.stage
