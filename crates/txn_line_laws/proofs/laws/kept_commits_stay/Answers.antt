use Rattle.std.proofs.Common.{◌++◌}
use Rattle.rss_wire.specs.declared.messages.Outcome.TheVariants.{Committed}
use Rattle.world_laws.proofs.Later.{later_run}
use Rattle.txn_line_laws.proofs.True.{true_run}
use Rattle.txn_line_laws.proofs.laws.kept_commits_stay.Goals as goal

pub returns : goal.returns
returns c = λ config steps more u s n o e f shard a time z k.
    let d = (later_run config steps more u s e f).decisions shard a (Committed time) k in
    record { kept = d; present = (true_run config (steps ++ more) s n o f).decided.at shard a (Committed time) z d }
