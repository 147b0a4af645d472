use Rattle.coupling_laws.proofs.Fences.{reg_entered}
use Rattle.coupling_laws.proofs.laws.entered_register_context_covers.Goals as goal

pub returns : goal.returns
returns c = reg_entered
