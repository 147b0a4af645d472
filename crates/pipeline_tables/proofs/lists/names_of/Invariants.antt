use Rattle.std.proofs.Common.{◌≡◌, drop}
use Rattle.toml.specs.View.{items_view}
use Rattle.pipeline_tables.specs.Lists.{onto, names_of}
use Rattle.pipeline_tables.proofs.lists.names_of.Given as goal

-- the names so far are those before the rest
abbrev pub invariant-loop-value : goal.invariant-loop-value
invariant-loop-value l = names_of l.place (items_view l.values) ≡ onto l.names (names_of l.place (items_view (drop l.value-index l.values)))
