use Rattle.rss_model.specs.ScriptSamples.{giver_runs, taker_runs}
use Rattle.rss_model.proofs.ScriptSampleLemmas.{not_run}
use Rattle.rss_model.proofs.laws.scripts_are_followed.Goals as goal

pub returns-clause-giver : goal.returns-clause-giver
returns-clause-giver c = giver_runs

pub returns-clause-taker : goal.returns-clause-taker
returns-clause-taker c = taker_runs

pub returns-clause-skipped : goal.returns-clause-skipped
returns-clause-skipped c = not_run
