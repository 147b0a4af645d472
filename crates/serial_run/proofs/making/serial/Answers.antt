-- The policy ends with the log or with all stages.
use Rattle.std.proofs.Common.{rules}
use Rattle.serial_run.proofs.UnderWay.{has_ended}
use Rattle.serial_run.proofs.making.serial.Goals as goal

pub returns-clause-ended : goal.returns-clause-ended
returns-clause-ended c = has_ended c.args.config c.make_steps.new.world c.requires.sound (search rules)
