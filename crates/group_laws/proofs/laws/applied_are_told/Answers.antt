use Rattle.group_laws.proofs.Runs.{applied_are_told}
use Rattle.group_laws.proofs.laws.applied_are_told.Goals as goal

pub returns : goal.returns
returns c = applied_are_told
