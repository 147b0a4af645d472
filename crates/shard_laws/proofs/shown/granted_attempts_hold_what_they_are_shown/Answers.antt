use Rattle.shard_laws.proofs.Holders.{granted_shown, holder_from}
use Rattle.shard_laws.proofs.shown.granted_attempts_hold_what_they_are_shown.Goals as goal

pub returns-clause-shown : goal.returns-clause-shown
returns-clause-shown c = granted_shown

pub returns-clause-asked : goal.returns-clause-asked
returns-clause-asked c = holder_from
