-- The tail splits off, is read as its steps, and these are the run that was reported.
use Rattle.rss_cli.proofs.Again.{replayable}
use Rattle.rss_cli.proofs.laws.printed_logs_replay.Goals as goal

pub returns : goal.returns
returns g = replayable
