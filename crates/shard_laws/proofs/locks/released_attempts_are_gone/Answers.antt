use Rattle.shard_laws.proofs.Released.{released_gone}
use Rattle.shard_laws.proofs.locks.released_attempts_are_gone.Goals as goal

pub returns : goal.returns
returns c = released_gone
