use Rattle.std.proofs.Common.{◌≡◌, ◌∙◌, sym, None}
use Rattle.rss_tables.specs.ShardRow.{decision_in}
use Rattle.txn_shard.proofs.Decided.{insert-decision, with-new}
use Rattle.txn_shard.proofs.decisions.keep.Goals as goal

pub returns : goal.returns
returns c =
    let none : decision_in c.args.decisions.now.entries c.args.attempt ≡ None = sym c.in_default.ensures in
    let entries = rw c.unwrap.ensures at c.insert.ensures.entries in
    entries
    ∙ insert-decision c.args.decisions.now.entries c.args.attempt c.args.outcome none
    ∙ sym (with-new c.args.decisions.now.entries c.args.attempt c.args.outcome none)
