use Rattle.std.proofs.Common.{◌≡◌, ◌+◌, ◌-◌, length, drop}
use Rattle.toml.specs.View.{items_view}
use Rattle.pipeline_tables.specs.Lists.{onto}
use Rattle.pipeline_tables.specs.Services.{services_from}
use Rattle.pipeline_tables.proofs.services.services.Given as goal

-- the services so far are those before the rest
abbrev pub invariant-loop-index : goal.invariant-loop-index
invariant-loop-index l = (services_from l.root l.place (64 - length l.root.registers) 1 (items_view l.values) ≡ onto l.services (services_from l.root l.place l.room (l.index + 1) (items_view (drop l.index l.values)))) × (length l.services ≡ l.index)
