use Rattle.std.proofs.Common.{◌≤◌, ◌-◌}
use Rattle.session_outbox.proofs.lists.Lists.make_room.Given as goal

abbrev pub invariant-loop-self : goal.invariant-loop-self
invariant-loop-self g l = l.fn.self ≤ l.self

abbrev pub decreases-loop-self : goal.decreases-loop-self
decreases-loop-self g l = l.count - l.self
