-- Of whom it is told that he is over.
use Rattle.await_laws.proofs.Over.{over_told}
use Rattle.await_laws.proofs.laws.over_is_told.Goals as goal

pub returns : goal.returns
returns g = over_told
