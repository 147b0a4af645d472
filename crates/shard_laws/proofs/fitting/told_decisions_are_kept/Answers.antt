use Rattle.shard_laws.proofs.Fits.{decided_told, inquired_told}
use Rattle.shard_laws.proofs.fitting.told_decisions_are_kept.Goals as goal

pub returns-clause-decided : goal.returns-clause-decided
returns-clause-decided c = decided_told

pub returns-clause-asked : goal.returns-clause-asked
returns-clause-asked c = inquired_told
