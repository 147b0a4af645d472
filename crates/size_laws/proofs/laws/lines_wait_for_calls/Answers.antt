-- Whom lines wait for are calls.
use Rattle.size_laws.proofs.Callers.{calls_run}
use Rattle.size_laws.proofs.laws.lines_wait_for_calls.Goals as goal

pub returns : goal.returns
returns g = calls_run
