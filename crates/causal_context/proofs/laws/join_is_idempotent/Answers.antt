use Rattle.causal_context.proofs.SeenJoins.{itself}
use Rattle.causal_context.proofs.laws.join_is_idempotent.Goals as goal

pub returns : goal.returns
returns c = itself
