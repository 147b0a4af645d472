use Rattle.shard_laws.proofs.Fits.{prepared_told}
use Rattle.shard_laws.proofs.fitting.prepared_replies_are_true.Goals as goal

pub returns : goal.returns
returns c = prepared_told
