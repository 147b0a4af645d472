use Rattle.txn_laws.proofs.Asks.{new_asked}
use Rattle.txn_laws.proofs.shards.what_is_new_was_asked_for.Goals as goal

pub returns : goal.returns
returns c = new_asked
