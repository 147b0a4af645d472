use Rattle.std.proofs.Common.{◌≡◌, ◌+◌, ◌≤◌, drop}
use Rattle.event_world.specs.Asked.{count_by}
use Rattle.event_world.proofs.world.steps_of_driver.Given as goal

-- what was counted and what is left to count are the whole
abbrev pub invariant-loop-logged : goal.invariant-loop-logged
invariant-loop-logged l = (l.made + count_by l.driver (drop l.logged-index l.log) ≡ count_by l.driver l.log) × (l.made ≤ l.logged-index)
