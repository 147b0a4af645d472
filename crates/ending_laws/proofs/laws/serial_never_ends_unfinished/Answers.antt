-- The steps of the serial policy end.
use Rattle.ending_laws.proofs.Stuck.{never_unfinished}
use Rattle.ending_laws.proofs.laws.serial_never_ends_unfinished.Goals as goal

pub returns : goal.returns
returns g = never_unfinished
