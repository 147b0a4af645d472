use Rattle.context_moves.proofs.Ticking.{ticks_covering}
use Rattle.context_moves.proofs.laws.counted_steps_keep_covering.Goals as goal

pub returns : goal.returns
returns g c b s at l k = ticks_covering c b s at l k
