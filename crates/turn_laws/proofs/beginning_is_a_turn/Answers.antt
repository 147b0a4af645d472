use Rattle.turn_laws.proofs.Works.{beginning_is_a_turn}
use Rattle.turn_laws.proofs.beginning_is_a_turn.Goals as goal

pub returns : goal.returns
returns c = beginning_is_a_turn
