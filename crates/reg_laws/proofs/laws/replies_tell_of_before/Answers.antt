-- Replies tell of each moment before their request was sent.
use Rattle.reg_laws.proofs.Tells.{tell_run}
use Rattle.reg_laws.proofs.laws.replies_tell_of_before.Goals as goal

pub returns : goal.returns
returns c = tell_run
