use Rattle.std.proofs.Common.{sym}
use Rattle.history_text.proofs.Missing.{missing}
use Rattle.history_text.proofs.named.home_number.Goals as goal

pub returns-in-None : goal.returns-in-None
returns-in-None c = sym (missing c.args.config.now.homes c.args.index 0 (sym c.in-None.ensures))
