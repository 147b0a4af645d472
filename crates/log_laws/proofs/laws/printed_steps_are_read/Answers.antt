-- The text is read as its steps.
use Rattle.log_laws.proofs.Reading.{read_alone}
use Rattle.log_laws.proofs.laws.printed_steps_are_read.Goals as goal

pub returns : goal.returns
returns g = read_alone
