use Rattle.shard_laws.proofs.Fits.{locked_after}
use Rattle.shard_laws.proofs.Releases.{locked_opening}
use Rattle.shard_laws.proofs.fitting.prepared_writes_stay_locked.Goals as goal

pub returns-clause-at_first : goal.returns-clause-at_first
returns-clause-at_first c = locked_opening

pub returns-clause-kept : goal.returns-clause-kept
returns-clause-kept c = locked_after
