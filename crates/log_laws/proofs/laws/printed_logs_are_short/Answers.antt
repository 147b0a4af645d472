-- Each line is short.
use Rattle.log_laws.proofs.Lengths.{printed_short}
use Rattle.log_laws.proofs.laws.printed_logs_are_short.Goals as goal

pub returns : goal.returns
returns g = printed_short
