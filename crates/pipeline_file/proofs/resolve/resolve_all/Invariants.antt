use Rattle.std.proofs.Common.{◌≡◌, ◌+◌, length, drop}
use Rattle.pipeline_tables.specs.Lists.{onto}
use Rattle.pipeline_file.specs.Resolve.{each_from}
use Rattle.pipeline_file.proofs.resolve.resolve_all.Given as goal

-- the meanings so far are those before the rest
abbrev pub invariant-loop-index : goal.invariant-loop-index
invariant-loop-index g l = (each_from (g.T.Resolve.means l.known) 1 l.rows ≡ onto l.meanings (each_from (g.T.Resolve.means l.known) (l.index + 1) (drop l.index l.rows))) × (length l.meanings ≡ l.index)
