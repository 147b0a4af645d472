use Rattle.session_laws.proofs.Shown.{newest_in, versions_in}
use Rattle.session_laws.proofs.lines.shards_show_what_was_asked_for.Goals as goal

pub returns-clause-newest : goal.returns-clause-newest
returns-clause-newest c = newest_in

pub returns-clause-at_a_time : goal.returns-clause-at_a_time
returns-clause-at_a_time c = versions_in
