use Rattle.std.proofs.Common.{◌≡◌, ◌++◌, drop, map}
use Rattle.call_tables.specs.Cells.{table_in}
use Rattle.call_tables.proofs.latest.shown_of_keys.Given as goal

-- the keys that were passed and those that are left are the whole
abbrev pub invariant-loop-key : goal.invariant-loop-key
invariant-loop-key l = l.shown.items ++ map (table_in l.rows) (drop l.key-index l.keys) ≡ map (table_in l.rows) l.keys
