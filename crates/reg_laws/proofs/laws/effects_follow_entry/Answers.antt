use Rattle.reg_laws.proofs.Covered.{entry_run}
use Rattle.reg_laws.proofs.laws.effects_follow_entry.Goals as goal

pub returns : goal.returns
returns c = entry_run
