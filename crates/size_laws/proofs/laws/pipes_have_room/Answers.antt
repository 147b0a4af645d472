-- A pipe holds no more than its capacity.
use Rattle.size_laws.proofs.RoomRuns.{room_run}
use Rattle.size_laws.proofs.laws.pipes_have_room.Goals as goal

pub returns : goal.returns
returns g = room_run
