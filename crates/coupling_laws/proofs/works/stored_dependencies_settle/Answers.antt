use Rattle.coupling_laws.proofs.Settles.{fix_settles}
use Rattle.coupling_laws.proofs.works.stored_dependencies_settle.Goals as goal

pub returns : goal.returns
returns c = fix_settles
