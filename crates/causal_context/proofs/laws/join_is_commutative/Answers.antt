use Rattle.causal_context.proofs.SeenJoins.{swapped}
use Rattle.causal_context.proofs.laws.join_is_commutative.Goals as goal

pub returns : goal.returns
returns c = swapped
