-- The first mark is the one behind the file.
use Rattle.log_laws.proofs.Splitting.{printed_split}
use Rattle.log_laws.proofs.laws.printed_logs_split.Goals as goal

pub returns : goal.returns
returns g = printed_split
