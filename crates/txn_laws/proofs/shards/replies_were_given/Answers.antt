use Rattle.txn_laws.proofs.Gives.{replies_given}
use Rattle.txn_laws.proofs.shards.replies_were_given.Goals as goal

pub returns : goal.returns
returns c = replies_given
