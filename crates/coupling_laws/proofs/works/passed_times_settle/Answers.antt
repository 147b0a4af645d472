use Rattle.coupling_laws.proofs.Settles.{past_settles}
use Rattle.coupling_laws.proofs.works.passed_times_settle.Goals as goal

pub returns : goal.returns
returns c = past_settles
