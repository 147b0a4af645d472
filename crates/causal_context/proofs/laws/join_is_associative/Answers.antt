use Rattle.causal_context.proofs.SeenJoins.{thrice}
use Rattle.causal_context.proofs.laws.join_is_associative.Goals as goal

pub returns : goal.returns
returns c = thrice
