use Rattle.quorum_laws.proofs.Rounds.{heard_what_was_held}
use Rattle.quorum_laws.proofs.heard.reached_rounds_hear_what_a_majority_held.Goals as goal

pub returns : goal.returns
returns c = heard_what_was_held
