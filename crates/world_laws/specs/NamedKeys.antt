-- Files whose scripts name keys of the file's transaction services.
use Rattle.std.specs.Prelude.{◌≡◌, ℕ, ◌≤◌, Bool, true, false, List, [], ◌∷◌, ◌++◌, length, map, Option, Some, IsTrue}
use Rattle.std.proofs.Common.{All}
use Rattle.std.specs.List.{list_any}
use Rattle.rss_names.specs.declared.service.Key.{Key}
use Rattle.rss_names.specs.Services.{same_key}
use Rattle.pipeline_lang.specs.Config.{home_of, statement_at}
use Rattle.pipeline_lang.specs.declared.config.Config.{Config}
use Rattle.pipeline_lang.specs.declared.script.Statement.{Statement}
use Rattle.pipeline_lang.specs.declared.script.Statement.TheVariants as statement
use Rattle.rss_model.specs.declared.op.Op.{Op}
use Rattle.rss_model.specs.declared.op.Op.TheVariants as op
use Rattle.rss_tables.specs.Versions.{KeyVersions}
use Rattle.rss_machine.specs.State.{start, shard_at}

-- a key of the file: its home is one of the file's shards, which keeps it
pub record IsKey (c : Config) (key : Key) : Type 0 where
  pub first : 1 ≤ home_of c key.index
  pub last : home_of c key.index ≤ length c.shard_services
  pub most : home_of c key.index ≤ 16
  pub kept : IsTrue (list_any (λ (kv : KeyVersions). same_key kv.key key) (shard_at (start c) (home_of c key.index)).store)

-- the keys of transaction services that a statement names
abbrev pub statement_keys : Statement ℕ Key ℕ ℕ → List Key
statement_keys (statement.Snap pairs) = map (λ pair. pair.1) pairs
statement_keys (statement.Txn reads guard writes) = map (λ pair. pair.1) reads ++ map (λ write. write.0) writes
statement_keys (statement.Read variable key) = []
statement_keys (statement.Write key value) = []
statement_keys (statement.Let variable value) = []
statement_keys (statement.Spawn child) = []
statement_keys (statement.Wait child) = []
statement_keys (statement.Put p value) = []
statement_keys (statement.Take variable p) = []
statement_keys (statement.Close p) = []
statement_keys statement.Fence = []
statement_keys (statement.Repeat times) = []
statement_keys (statement.When test) = []
statement_keys statement.End = []
statement_keys statement.Exit = []

-- a snapshot and a transaction name a key at least
abbrev pub is_some_key : List Key → Bool
is_some_key [] = false
is_some_key (key ∷ keys) = true

abbrev pub names_some : Statement ℕ Key ℕ ℕ → Bool
names_some (statement.Snap pairs) = is_some_key (statement_keys (statement.Snap pairs))
names_some (statement.Txn reads guard writes) = is_some_key (statement_keys (statement.Txn reads guard writes))
names_some (statement.Read variable key) = true
names_some (statement.Write key value) = true
names_some (statement.Let variable value) = true
names_some (statement.Spawn child) = true
names_some (statement.Wait child) = true
names_some (statement.Put p value) = true
names_some (statement.Take variable p) = true
names_some (statement.Close p) = true
names_some statement.Fence = true
names_some (statement.Repeat times) = true
names_some (statement.When test) = true
names_some statement.End = true
names_some statement.Exit = true

-- each key that a script names is one of the file; snapshots and transactions name some
pub record NamesKeys (c : Config) : Type 0 where
  pub statements : (n place : ℕ) → All (IsKey c) (statement_keys (statement_at c n place))
  pub some : (n place : ℕ) → names_some (statement_at c n place) ≡ true

-- the keys of an operation on a transaction service
abbrev pub op_keys : Op → List Key
op_keys (op.Snap keys) = keys
op_keys (op.Txn reads guard writes) = reads ++ map (λ write. write.0) writes
op_keys (op.Read key) = []
op_keys (op.Write key value) = []

-- each is one of the file, and a snapshot or a transaction has one at least
abbrev pub op_names_some : Op → Bool
op_names_some (op.Snap keys) = is_some_key keys
op_names_some (op.Txn reads guard writes) = is_some_key (reads ++ map (λ write. write.0) writes)
op_names_some (op.Read key) = true
op_names_some (op.Write key value) = true

pub record OpNamed (c : Config) (x : Op) : Type 0 where
  pub keys : All (IsKey c) (op_keys x)
  pub some : op_names_some x ≡ true
