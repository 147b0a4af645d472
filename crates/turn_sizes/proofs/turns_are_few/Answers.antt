use Rattle.turn_sizes.proofs.Turned.{turns_are_few}
use Rattle.turn_sizes.proofs.turns_are_few.Goals as goal

pub returns : goal.returns
returns c = turns_are_few
