use Rattle.std.proofs.Common.{◌≡◌, ◌++◌}
use Rattle.plain_script.specs.Standing.{left_of, way, way_from}
use Rattle.plain_script.proofs.ways.add_way.Given as goal

-- the states that were added and those that are left are all
abbrev pub invariant-loop-standing : goal.invariant-loop-standing
invariant-loop-standing l =
    l.walks.items ++ way_from l.config l.h l.stage l.standing ≡
    l.fn.walks.items ++ way l.config l.h l.stage l.base

abbrev pub decreases-loop-standing : goal.decreases-loop-standing
decreases-loop-standing l = left_of l.config l.stage l.standing
