-- Messages are of owners that have begun.
use Rattle.ready_laws.proofs.Links.{messages_run}
use Rattle.ready_laws.proofs.laws.messages_are_owned.Goals as goal

pub returns : goal.returns
returns g = messages_run
