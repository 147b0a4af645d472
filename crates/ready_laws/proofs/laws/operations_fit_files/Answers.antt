-- Operations fit their file.
use Rattle.ready_laws.proofs.Links.{operations_run}
use Rattle.ready_laws.proofs.laws.operations_fit_files.Goals as goal

pub returns : goal.returns
returns g = operations_run
