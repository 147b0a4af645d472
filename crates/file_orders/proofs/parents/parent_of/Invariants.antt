use Rattle.std.proofs.Common.{◌≡◌, ◌+◌, drop}
use Rattle.rss_machine.specs.Standing.{parent_from}
use Rattle.file_orders.proofs.parents.parent_of.Given as goal

-- no stage so far spawns this one
abbrev pub invariant-loop-body : goal.invariant-loop-body
invariant-loop-body l = (l.number ≡ l.body-index + 1) × (parent_from 1 l.child l.config.bodies ≡ parent_from l.number l.child (drop l.body-index l.config.bodies))
