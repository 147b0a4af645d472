-- What an operation reads and writes.
use Rattle.std.specs.Prelude.{ℕ, Bool, true, false, List, [], ◌∷◌, map, Some, None}
use Rattle.rss_names.specs.declared.service.Key.{Key}
use Rattle.rss_model.specs.declared.op.Op.{Op}
use Rattle.rss_model.specs.declared.op.Op.TheVariants.{Read, Write, Snap, Txn}
use Rattle.rss_model.specs.declared.op.Shown.{Shown}
use Rattle.rss_model.specs.Formula.{formula_value, guard_value}

-- the keys that an operation reads, in its order
abbrev pub reads_of : Op → List Key
reads_of (Read key) = key ∷ []
reads_of (Write key value) = []
reads_of (Snap keys) = keys
reads_of (Txn keys guard writes) = keys

-- the keys that an operation writes, in its order
abbrev pub writes_of : Op → List Key
writes_of (Read key) = []
writes_of (Write key value) = key ∷ []
writes_of (Snap keys) = []
writes_of (Txn keys guard writes) = map (λ write. write.0) writes

-- what an operation writes where it read these values: each key with its new value
abbrev pub written_by : Op → List ℕ → List (Key × ℕ)
written_by (Read key) values = []
written_by (Write key value) values = (key, value) ∷ []
written_by (Snap keys) values = []
written_by (Txn keys guard writes) values =
    map (λ write. (write.0, formula_value write.1 values)) writes

-- whether an operation, if it has a guard, has one that is true over the values that it read
abbrev pub guard_holds : Op → List ℕ → Bool
guard_holds (Read key) values = true
guard_holds (Write key value) values = true
guard_holds (Snap keys) values = true
guard_holds (Txn keys None writes) values = true
guard_holds (Txn keys (Some guard) writes) values = guard_value guard values

-- whether an operation is one that writes
abbrev pub may_write : Op → Bool
may_write (Read key) = false
may_write (Write key value) = true
may_write (Snap keys) = false
may_write (Txn keys guard writes) = true

-- the values that a reply shows, in its order
abbrev pub values_of : List Shown → List ℕ
values_of reply = map (λ shown. shown.value) reply
