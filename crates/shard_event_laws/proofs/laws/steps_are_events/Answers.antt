use Rattle.shard_event_laws.proofs.Runs as runs
use Rattle.shard_event_laws.proofs.laws.steps_are_events.Goals as goal

pub returns : goal.returns
returns c = runs.steps_are_events
