use Rattle.std.proofs.Common.{◌≡◌, ℕ, ◌+◌, ◌-◌, length}
use Rattle.call_tables.specs.Cells.{row_in}
use Rattle.call_tables.proofs.latest.reach.Given as goal

abbrev pub invariant-loop-alloc : goal.invariant-loop-alloc
invariant-loop-alloc l = (at : ℕ) → row_in l.rows.items at ≡ row_in l.fn.rows.items at

abbrev pub decreases-loop-alloc : goal.decreases-loop-alloc
decreases-loop-alloc l = l.place + 1 - length l.rows.items
