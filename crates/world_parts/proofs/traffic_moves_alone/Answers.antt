use Rattle.world_parts.proofs.Frames.{traffic_moves}
use Rattle.world_parts.proofs.traffic_moves_alone.Goals as goal

pub returns : goal.returns
returns c = traffic_moves
