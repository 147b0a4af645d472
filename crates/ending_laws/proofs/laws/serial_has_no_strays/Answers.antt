-- The steps of the serial policy are turns.
use Rattle.ending_laws.proofs.Strays.{serial_straight}
use Rattle.ending_laws.proofs.laws.serial_has_no_strays.Goals as goal

pub returns : goal.returns
returns g = serial_straight
