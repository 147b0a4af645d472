use Rattle.turn_facts.proofs.Facts.{facts_run}
use Rattle.turn_facts.proofs.runs_keep_turn_facts.Goals as goal

pub returns : goal.returns
returns c = facts_run
