-- How operations are read.
use Rattle.std.specs.Prelude.{ℕ, suc, ◌||◌, cond, List, [], ◌∷◌, length, Option, Some, None, codes}
use Rattle.rss_names.specs.declared.service.Key.{Key}
use Rattle.pipeline_lang.specs.declared.config.Config.{Config}
use Rattle.pipeline_lang.specs.declared.script.Expr.{Expr}
use Rattle.pipeline_lang.specs.Terms.{number}
use Rattle.rss_model.specs.declared.op.Op.{Op}
use Rattle.rss_model.specs.declared.op.Op.TheVariants.{Read, Write, Snap, Txn}
use Rattle.history_text.specs.Reading.{◌>>=◌, begins, behind, word_at, token_at, members_at}
use Rattle.history_text.specs.Named.{register_named, shard_key_named}
use Rattle.history_text.specs.Formulas.{formula_at, when_at, begins_guard}

-- a key of a transaction service
abbrev pub key_at : Config → List ℕ → Option (Key × List ℕ)
key_at config bytes = token_at (shard_key_named config) bytes

-- keys, with `, ` between
abbrev pub keys_at : Config → List ℕ → Option (List Key × List ℕ)
keys_at config bytes = members_at (key_at config) (suc (length bytes)) bytes

-- a write of a transaction
unfoldable pub write_at : Config → List ℕ → Option ((Key × Expr ℕ) × List ℕ)
write_at config bytes = do
  key ← key_at config bytes
  rest ← word_at (codes " = ") key.1
  value ← formula_at rest
  Some ((key.0, value.0), value.1)

-- writes, with `, ` between
abbrev pub writes_at : Config → List ℕ → Option (List (Key × Expr ℕ) × List ℕ)
writes_at config bytes = members_at (write_at config) (suc (length bytes)) bytes

-- `REG` behind `read `
unfoldable pub read_at : Config → List ℕ → Option (Op × List ℕ)
read_at config bytes = do
  key ← token_at (register_named config) bytes
  Some (Read key.0, key.1)

-- `REG V` behind `write `
unfoldable pub written_at : Config → List ℕ → Option (Op × List ℕ)
written_at config bytes = do
  key ← token_at (register_named config) bytes
  rest ← word_at (codes " ") key.1
  value ← token_at number rest
  Some (Write key.0 value.0, value.1)

-- keys behind `snap `
unfoldable pub snap_at : Config → List ℕ → Option (Op × List ℕ)
snap_at config bytes = do
  keys ← keys_at config bytes
  Some (Snap keys.0, keys.1)

-- the keys that a transaction reads, if it reads any
unfoldable pub reads_at : Config → List ℕ → Option (List Key × List ℕ)
reads_at config bytes = cond (begins (codes " : ") bytes || begins_guard bytes)
    (Some ([], bytes))
    (do
      rest ← word_at (codes " ") bytes
      keys_at config rest)

-- the keys, the guard and the writes behind `txn`
unfoldable pub txn_at : Config → List ℕ → Option (Op × List ℕ)
txn_at config bytes = do
  keys ← reads_at config bytes
  guard ← when_at keys.1
  rest ← word_at (codes " : ") guard.1
  writes ← writes_at config rest
  Some (Txn keys.0 guard.0 writes.0, writes.1)

-- an operation
unfoldable pub op_at : Config → List ℕ → Option (Op × List ℕ)
op_at config bytes =
    cond (begins (codes "read ") bytes) (read_at config (behind (codes "read ") bytes))
    (cond (begins (codes "write ") bytes) (written_at config (behind (codes "write ") bytes))
    (cond (begins (codes "snap ") bytes) (snap_at config (behind (codes "snap ") bytes))
    (cond (begins (codes "txn") bytes) (txn_at config (behind (codes "txn") bytes))
    None)))
