use Rattle.std.proofs.Common.{◌≡◌, length}
use Rattle.session_stub.specs.Passing.{through_works, next_work}
use Rattle.session_stub.proofs.works.Works.pass.Given as goal

-- what is left goes on as all would
abbrev pub invariant-loop-at : goal.invariant-loop-at
invariant-loop-at l = record {
  works : through_works l.at l.self.works l.self.works.left ≡ through_works l.at l.fn.self.works l.fn.self.works.left;
  next : next_work l.at l.self.works.left ≡ next_work l.at l.fn.self.works.left;
  room : l.self.room ≡ l.fn.self.room;
}

abbrev pub decreases-loop-at : goal.decreases-loop-at
decreases-loop-at l = length l.self.works.left
