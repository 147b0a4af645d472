-- The line that wakes sleeps.
use Rattle.run_laws.proofs.Acts.{waking_sleeps}
use Rattle.run_laws.proofs.laws.waking_lines_sleep.Goals as goal

pub returns : goal.returns
returns g = waking_sleeps
