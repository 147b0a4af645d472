use Rattle.turn_laws.proofs.Losses.{losses_move}
use Rattle.turn_laws.proofs.losses_move_alone.Goals as goal

pub returns : goal.returns
returns c = losses_move
