use Rattle.txn_laws.proofs.Serves.{reached_run}
use Rattle.txn_laws.proofs.shards.shards_are_reached.Goals as goal

pub returns : goal.returns
returns c = reached_run
