use Rattle.coupling_laws.proofs.Places.{copied}
use Rattle.coupling_laws.proofs.laws.copied_context_covers.Goals as goal

pub returns : goal.returns
returns c = copied
