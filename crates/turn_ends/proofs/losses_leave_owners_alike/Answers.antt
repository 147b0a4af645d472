use Rattle.turn_ends.proofs.Likes.{lost_like}
use Rattle.turn_ends.proofs.losses_leave_owners_alike.Goals as goal

pub returns : goal.returns
returns c = lost_like
