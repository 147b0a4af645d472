use Rattle.world_parts.proofs.Frames.{staging_moves}
use Rattle.world_parts.proofs.staging_moves_alone.Goals as goal

pub returns : goal.returns
returns c = staging_moves
