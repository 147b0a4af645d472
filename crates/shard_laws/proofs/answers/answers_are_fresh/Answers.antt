use Rattle.shard_laws.proofs.Fresh.{answer_versions, answer_shows, answer_skips}
use Rattle.shard_laws.proofs.answers.answers_are_fresh.Goals as goal

pub returns-clause-versions : goal.returns-clause-versions
returns-clause-versions c = answer_versions

pub returns-clause-shows : goal.returns-clause-shows
returns-clause-shows c = answer_shows

pub returns-clause-skips : goal.returns-clause-skips
returns-clause-skips c = answer_skips
