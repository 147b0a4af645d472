use Rattle.turn_laws.proofs.Losses.{losing_is_a_move}
use Rattle.turn_laws.proofs.losing_is_a_move.Goals as goal

pub returns : goal.returns
returns c = losing_is_a_move
