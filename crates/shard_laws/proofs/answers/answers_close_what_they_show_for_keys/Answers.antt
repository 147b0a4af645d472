use Rattle.shard_laws.proofs.Fresh.{answer_closes}
use Rattle.shard_laws.proofs.answers.answers_close_what_they_show_for_keys.Goals as goal

pub returns : goal.returns
returns c = answer_closes
