use Rattle.turn_sizes.proofs.Turned.{beginnings_are_few}
use Rattle.turn_sizes.proofs.beginnings_are_few.Goals as goal

pub returns : goal.returns
returns c = beginnings_are_few
