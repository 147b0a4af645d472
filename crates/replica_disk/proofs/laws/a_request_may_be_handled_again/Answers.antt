use Rattle.replica_disk.proofs.Fronts.{registers_again, reply_again}
use Rattle.replica_disk.proofs.laws.a_request_may_be_handled_again.Goals as goal

pub returns-clause-registers : goal.returns-clause-registers
returns-clause-registers c = registers_again

pub returns-clause-reply : goal.returns-clause-reply
returns-clause-reply c = reply_again
