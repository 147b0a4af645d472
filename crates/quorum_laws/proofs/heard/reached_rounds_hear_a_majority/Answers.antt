use Rattle.quorum_laws.proofs.Rounds.{heard_of_majority}
use Rattle.quorum_laws.proofs.heard.reached_rounds_hear_a_majority.Goals as goal

pub returns : goal.returns
returns c = heard_of_majority
