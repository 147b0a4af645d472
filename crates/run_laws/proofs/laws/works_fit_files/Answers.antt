-- Works are few, of the file's services and registers.
use Rattle.run_laws.proofs.Facts.{works_fit}
use Rattle.run_laws.proofs.laws.works_fit_files.Goals as goal

pub returns : goal.returns
returns g = works_fit
