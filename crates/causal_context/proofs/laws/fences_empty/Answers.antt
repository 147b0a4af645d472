use Rattle.causal_context.proofs.SeenKept.{fence_gone, fence_clears}
use Rattle.causal_context.proofs.laws.fences_empty.Goals as goal

pub returns : goal.returns
returns c = record { last = fence_gone; deps = fence_clears }
