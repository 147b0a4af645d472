use Rattle.turn_laws.proofs.Hears.{hearing_is_a_turn}
use Rattle.turn_laws.proofs.hearing_is_a_turn.Goals as goal

pub returns : goal.returns
returns c = hearing_is_a_turn
