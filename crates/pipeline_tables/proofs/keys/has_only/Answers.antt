use Rattle.std.proofs.Common.{◌∙◌}
use Rattle.pipeline_tables.proofs.KnownKeys.{has_only_entries}
use Rattle.pipeline_tables.proofs.keys.has_only.Goals as goal

pub returns : goal.returns
returns c = c.all_known.ensures ∙ has_only_entries c.args.known.now c.args.table.now.entries
