use Rattle.causal_context.proofs.SeenKept.{entry_reaches}
use Rattle.causal_context.proofs.laws.entry_raises.Goals as goal

pub returns : goal.returns
returns c = entry_reaches
