use Rattle.shard_laws.proofs.Laters.{holding}
use Rattle.shard_laws.proofs.Replies.{waits}
use Rattle.shard_laws.proofs.locks.waiting_attempts_are_told_who_is_in_their_way.Goals as goal

pub returns : goal.returns
returns c = λ sh x latest attempt coordinator reads writes holders e. waits sh latest attempt coordinator reads writes holders (holding sh x) e
