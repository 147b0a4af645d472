use Rattle.shard_laws.proofs.Answered.{answered}
use Rattle.shard_laws.proofs.versions.answers_pass_by_rightly.Goals as goal

pub returns : goal.returns
returns c = answered
