use Rattle.shard_laws.proofs.Answered.{closes}
use Rattle.shard_laws.proofs.versions.answers_close_what_they_show.Goals as goal

pub returns : goal.returns
returns c = closes
