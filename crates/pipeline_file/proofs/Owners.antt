-- services, owners and homes, table by table
use Rattle.std.proofs.Common.{◌≡◌, ℕ, ◌+◌, ◌<◌, List, ◌∷◌, ◌++◌, length, get_or, drop}
use Rattle.std.proofs.lemmas.List.{drop_more}
use Rattle.pipeline_tables.specs.declared.tables.ServiceTable.{ServiceTable}
use Rattle.pipeline_tables.specs.declared.tables.ShardTable.{ShardTable}
use Rattle.pipeline_file.specs.Services.{for_each, further_one, next_txn, next_reg, further_from, owners_from, homes_from}

pub further_from_drop : (txn reg : ℕ) (xs : List ServiceTable) (i : ℕ) (d : ServiceTable) → i < length xs → further_from txn reg (drop i xs) ≡ further_one txn reg (get_or xs i d) ∷ further_from (next_txn txn (get_or xs i d).kind) (next_reg reg (get_or xs i d).kind) (drop (i + 1) xs)
unfolding further_from
further_from_drop txn reg xs i d h = rw (drop_more xs i d h)

pub owners_from_drop : (txn reg : ℕ) (xs : List ServiceTable) (i : ℕ) (d : ServiceTable) → i < length xs → owners_from txn reg (drop i xs) ≡ for_each (further_one txn reg (get_or xs i d)).id (get_or xs i d).registers ++ owners_from (next_txn txn (get_or xs i d).kind) (next_reg reg (get_or xs i d).kind) (drop (i + 1) xs)
unfolding owners_from
owners_from_drop txn reg xs i d h = rw (drop_more xs i d h)

pub homes_from_drop : (n : ℕ) (xs : List ShardTable) (i : ℕ) (d : ShardTable) → i < length xs → homes_from n (drop i xs) ≡ for_each n (get_or xs i d).keys ++ homes_from (n + 1) (drop (i + 1) xs)
unfolding homes_from
homes_from_drop n xs i d h = rw (drop_more xs i d h)

pub for_each_drop : {A : Type 0} (owner : A) (xs : List (List ℕ)) (i : ℕ) (d : List ℕ) → i < length xs → for_each owner (drop i xs) ≡ owner ∷ for_each owner (drop (i + 1) xs)
unfolding for_each
for_each_drop owner xs i d h = rw (drop_more xs i d h)
