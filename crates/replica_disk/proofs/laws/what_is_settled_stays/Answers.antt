use Rattle.replica_disk.proofs.Settled.{settled_opens}
use Rattle.replica_disk.proofs.laws.what_is_settled_stays.Goals as goal

pub returns : goal.returns
returns c = settled_opens
