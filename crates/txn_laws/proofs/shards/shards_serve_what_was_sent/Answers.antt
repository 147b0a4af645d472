use Rattle.txn_laws.proofs.Serves.{serves_on}
use Rattle.txn_laws.proofs.shards.shards_serve_what_was_sent.Goals as goal

pub returns : goal.returns
returns c = serves_on
