use Rattle.std.proofs.Common.{sym}
use Rattle.pipeline_tables.proofs.Laws.{item_count_view}
use Rattle.pipeline_tables.proofs.lists.item_count.Goals as goal

pub returns-clause-same : goal.returns-clause-same
returns-clause-same c = sym (item_count_view c.args.values.now)
