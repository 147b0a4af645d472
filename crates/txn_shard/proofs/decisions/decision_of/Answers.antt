use Rattle.std.proofs.Common.{◌≡◌, ◌∙◌}
use Rattle.txn_shard.proofs.Decided.{lookup-decision}
use Rattle.txn_shard.proofs.decisions.decision_of.Goals as goal

pub returns : goal.returns
returns c = c.copied.ensures ∙ c.get.ensures.value ∙ lookup-decision c.args.decisions.now.entries c.args.attempt
