use Rattle.coupling_laws.proofs.Fences.{outside_fenced}
use Rattle.coupling_laws.proofs.laws.fenced_context_covers.Goals as goal

pub returns : goal.returns
returns c = outside_fenced
