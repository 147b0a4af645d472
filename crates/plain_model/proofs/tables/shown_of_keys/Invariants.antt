use Rattle.std.proofs.Common.{◌≡◌, ◌++◌, drop, map}
use Rattle.plain_model.specs.Written.{table_of}
use Rattle.plain_model.proofs.tables.shown_of_keys.Given as goal

-- the keys that were passed and those that are left are the whole
abbrev pub invariant-loop-key : goal.invariant-loop-key
invariant-loop-key l =
    l.shown.items ++ map (table_of l.written) (drop l.key-index l.keys) ≡
    map (table_of l.written) l.keys
