use Rattle.txn_laws.proofs.Tells.{replies_tell}
use Rattle.txn_laws.proofs.shards.replies_stay_true.Goals as goal

pub returns : goal.returns
returns c = replies_tell
