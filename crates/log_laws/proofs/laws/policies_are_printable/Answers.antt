-- Its stages are the file's, its messages were sent, and its clock can be read.
use Rattle.log_laws.proofs.Grammar.{serial_grammar}
use Rattle.log_laws.proofs.laws.policies_are_printable.Goals as goal

pub returns : goal.returns
returns g = serial_grammar
