-- The time that is waited for has passed.
use Rattle.run_laws.proofs.Acts.{times_passed}
use Rattle.run_laws.proofs.laws.acts_find_times_passed.Goals as goal

pub returns : goal.returns
returns g = times_passed
