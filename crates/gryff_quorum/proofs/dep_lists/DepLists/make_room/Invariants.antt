use Rattle.std.proofs.Common.{◌≤◌, ◌-◌}
use Rattle.gryff_quorum.proofs.dep_lists.DepLists.make_room.Given as goal

abbrev pub invariant-loop-self : goal.invariant-loop-self
invariant-loop-self l = record {
  asked : l.fn.count ≤ l.wanted;
  more : l.fn.self.count ≤ l.wanted;
  wide : l.fn.width ≤ l.self.width;
  wider : l.fn.self.width ≤ l.self.width;
}

abbrev pub decreases-loop-self : goal.decreases-loop-self
decreases-loop-self l = l.wanted - l.self.count
