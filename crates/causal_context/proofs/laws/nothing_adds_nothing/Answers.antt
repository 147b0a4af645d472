use Rattle.causal_context.proofs.SeenJoins.{with_nothing, nothing_with}
use Rattle.causal_context.proofs.laws.nothing_adds_nothing.Goals as goal

pub returns : goal.returns
returns c = record { right = with_nothing; left = nothing_with }
