-- What owners have under way is of what they do.
use Rattle.reg_laws.proofs.Agree.{agree_run}
use Rattle.reg_laws.proofs.laws.sessions_agree.Goals as goal

pub returns : goal.returns
returns c = agree_run
