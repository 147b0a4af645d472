use Rattle.std.proofs.Common.{◌≡◌, ◌++◌, drop, map}
use Rattle.rss_check.specs.Table.{table_in}
use Rattle.rss_check.proofs.table.shown_of_keys.Given as goal

-- the keys that were passed and those that are left are the whole
abbrev pub invariant-loop-key : goal.invariant-loop-key
invariant-loop-key l =
    l.shown.items ++ map (table_in l.table) (drop l.key-index l.keys) ≡ map (table_in l.table) l.keys
