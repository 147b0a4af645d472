use Rattle.std.proofs.Common.{[], sym}
use Rattle.history_text.proofs.Missing.{missing}
use Rattle.history_text.proofs.named.name_at.Goals as goal

pub returns-in-None : goal.returns-in-None
returns-in-None c = sym (missing c.args.names.now c.args.position [] (sym c.in-None.ensures.named))
