use Rattle.world_laws.proofs.Replies.{exchanges_run}
use Rattle.world_laws.proofs.laws.replies_fit.Goals as goal

pub returns : goal.returns
returns c = exchanges_run
