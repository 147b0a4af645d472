-- A turn that sends and plans no more than there is room for in one step.
use Rattle.std.specs.Prelude.{◌≤◌, length}
use Rattle.turn_laws.specs.Turns.{OwnerTurn}

-- no more than thirty-two requests, and sixteen fences
pub record IsFew (t : OwnerTurn) : Type 0 where
  pub outs : length t.outs ≤ 32
  pub fences : length t.fences ≤ 16
