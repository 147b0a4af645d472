use Rattle.shard_laws.proofs.Laters.{kept_or_lost}
use Rattle.shard_laws.proofs.locks.locks_are_lost_to_older_attempts_or_given_back.Goals as goal

pub returns : goal.returns
returns c = kept_or_lost
