use Rattle.world_parts.proofs.Frames.{moves_split}
use Rattle.world_parts.proofs.moves_split.Goals as goal

pub returns : goal.returns
returns c = moves_split
