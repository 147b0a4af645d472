use Rattle.coupling_laws.proofs.Fences.{none_last}
use Rattle.coupling_laws.proofs.laws.unused_services_have_come.Goals as goal

pub returns : goal.returns
returns c = none_last
