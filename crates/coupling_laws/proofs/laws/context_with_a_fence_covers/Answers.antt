use Rattle.coupling_laws.proofs.Fences.{fence_ends}
use Rattle.coupling_laws.proofs.laws.context_with_a_fence_covers.Goals as goal

pub returns : goal.returns
returns c = λ v behind x id i k z. fence_ends v behind x id i k z
