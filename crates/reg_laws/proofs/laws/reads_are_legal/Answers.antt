-- Each read that has ended replied what the last write before it wrote.
use Rattle.reg_laws.proofs.Legal.{legal_run}
use Rattle.reg_laws.proofs.laws.reads_are_legal.Goals as goal

pub returns : goal.returns
returns c = legal_run
