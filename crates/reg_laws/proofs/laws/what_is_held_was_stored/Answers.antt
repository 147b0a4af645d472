-- What is held, depended on and shown was stored.
use Rattle.reg_laws.proofs.ValidRuns.{holds_run}
use Rattle.reg_laws.proofs.laws.what_is_held_was_stored.Goals as goal

pub returns : goal.returns
returns c = holds_run
