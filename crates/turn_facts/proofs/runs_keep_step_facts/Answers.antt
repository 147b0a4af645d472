use Rattle.turn_facts.proofs.Steps.{step_facts_run}
use Rattle.turn_facts.proofs.runs_keep_step_facts.Goals as goal

pub returns : goal.returns
returns c = step_facts_run
