use Rattle.std.proofs.Common.{sym}
use Rattle.rss_names.specs.declared.service.ServiceId.TheVariants.{Reg}
use Rattle.history_text.proofs.Missing.{missing}
use Rattle.history_text.proofs.named.register_service.Goals as goal

pub returns-in-None : goal.returns-in-None
returns-in-None c = sym (missing c.args.config.now.register_services c.args.index (Reg 0) (sym c.in-None.ensures))
