use Rattle.quorum_laws.proofs.Rounds.{told_of_majority}
use Rattle.quorum_laws.proofs.heard.reached_rounds_tell_of_a_majority.Goals as goal

pub returns : goal.returns
returns c = told_of_majority
