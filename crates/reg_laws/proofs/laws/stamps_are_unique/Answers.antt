-- One stamp is of one register, one value and one writer.
use Rattle.reg_laws.proofs.Stores.{stamps_run}
use Rattle.reg_laws.proofs.laws.stamps_are_unique.Goals as goal

pub returns : goal.returns
returns c = stamps_run
