use Rattle.turn_laws.proofs.Acts.{acting_is_a_turn}
use Rattle.turn_laws.proofs.acting_is_a_turn.Goals as goal

pub returns : goal.returns
returns c = acting_is_a_turn
