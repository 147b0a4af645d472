use Rattle.shard_laws.proofs.Orderly.{orderly_first, orderly_kept}
use Rattle.shard_laws.proofs.closing.shards_stay_orderly.Goals as goal

pub returns-clause-at_first : goal.returns-clause-at_first
returns-clause-at_first c = orderly_first

pub returns-clause-kept : goal.returns-clause-kept
returns-clause-kept c = orderly_kept
