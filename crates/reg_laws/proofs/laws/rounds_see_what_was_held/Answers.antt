-- A call finds what a majority held before its own first round.
use Rattle.reg_laws.proofs.Above.{see_run}
use Rattle.reg_laws.proofs.laws.rounds_see_what_was_held.Goals as goal

pub returns : goal.returns
returns c = see_run
