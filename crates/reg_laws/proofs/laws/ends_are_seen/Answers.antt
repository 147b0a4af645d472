-- What has ended takes effect by then, and later calls see it.
use Rattle.reg_laws.proofs.Seen.{seen_run}
use Rattle.reg_laws.proofs.laws.ends_are_seen.Goals as goal

pub returns : goal.returns
returns c = seen_run
