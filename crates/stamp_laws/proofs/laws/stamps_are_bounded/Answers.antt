-- Stamps are numbered up to the steps.
use Rattle.stamp_laws.proofs.Stamped.{stamps_run}
use Rattle.stamp_laws.proofs.laws.stamps_are_bounded.Goals as goal

pub returns : goal.returns
returns g = stamps_run
