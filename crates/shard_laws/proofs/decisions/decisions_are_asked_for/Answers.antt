use Rattle.shard_laws.proofs.Decided.{decided_from}
use Rattle.shard_laws.proofs.decisions.decisions_are_asked_for.Goals as goal

pub returns : goal.returns
returns c = decided_from
