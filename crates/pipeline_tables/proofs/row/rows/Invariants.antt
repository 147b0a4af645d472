use Rattle.std.proofs.Common.{◌≡◌, ◌+◌, length, drop}
use Rattle.toml.specs.View.{items_view}
use Rattle.pipeline_tables.specs.Lists.{onto, rows_from}
use Rattle.pipeline_tables.proofs.row.rows.Given as goal

-- the rows so far are those before the rest
abbrev pub invariant-loop-index : goal.invariant-loop-index
invariant-loop-index g l = (rows_from (g.R.Row.says l.root) l.place 1 (items_view l.values) ≡ onto l.rows (rows_from (g.R.Row.says l.root) l.place (l.index + 1) (items_view (drop l.index l.values)))) × (length l.rows ≡ l.index)
