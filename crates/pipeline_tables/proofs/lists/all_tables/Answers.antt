use Rattle.std.proofs.Common.{◌∙◌}
use Rattle.pipeline_tables.proofs.Laws.{all_tables_view}
use Rattle.pipeline_tables.proofs.lists.all_tables.Goals as goal

pub returns : goal.returns
returns c = c.each_is_table.ensures ∙ all_tables_view c.args.values.now
