use Rattle.quorum_laws.proofs.Rounds.{greatest_above_each}
use Rattle.quorum_laws.proofs.heard.greatest_is_at_least_each_heard.Goals as goal

pub returns : goal.returns
returns c = greatest_above_each
