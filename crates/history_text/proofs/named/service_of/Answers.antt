use Rattle.std.proofs.Common.{◌-◌, sym}
use Rattle.rss_names.specs.declared.service.ServiceId.TheVariants.{Txn}
use Rattle.history_text.proofs.Missing.{missing}
use Rattle.history_text.proofs.named.service_of.Goals as goal

pub returns-in-None : goal.returns-in-None
returns-in-None c =
    let none = rw c.saturating_sub.ensures at c.in-None.ensures in
    sym (missing c.args.config.now.shard_services (c.args.shard - 1) (Txn 0) (sym none))
