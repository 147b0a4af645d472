use Rattle.call_tables.specs.Along.{HoldsTable}
use Rattle.call_tables.proofs.walk.go_on.Given as goal

abbrev pub invariant-loop-at : goal.invariant-loop-at
invariant-loop-at l = HoldsTable l.calls l.order l.at l.rows.items
