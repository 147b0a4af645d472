use Rattle.shard_laws.proofs.Fresh.{answer_names, answer_waits}
use Rattle.shard_laws.proofs.answers.answers_name_the_prepared.Goals as goal

pub returns-clause-named : goal.returns-clause-named
returns-clause-named c = answer_names

pub returns-clause-nobody : goal.returns-clause-nobody
returns-clause-nobody c = answer_waits
