use Rattle.coupling_laws.proofs.Places.{grows}
use Rattle.coupling_laws.proofs.laws.context_covers_later.Goals as goal

pub returns : goal.returns
returns c = grows
