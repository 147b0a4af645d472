-- The grammar of statements.
use Rattle.std.specs.Prelude.{ℕ, suc, cond, List, [], length, Result, Ok, Option, Some, None, codes}
use Rattle.std.specs.Str.{bytes_eq}
use Rattle.pipeline_lang.specs.declared.script.Expr.{Expr}
use Rattle.pipeline_lang.specs.declared.script.Compare.{Compare}
use Rattle.pipeline_lang.specs.declared.script.Statement.{Statement}
use Rattle.pipeline_lang.specs.declared.script.Statement.TheVariants as statement
use Rattle.pipeline_lang.specs.declared.keyword.Keyword.{Keyword}
use Rattle.pipeline_lang.specs.declared.keyword.Keyword.TheVariants as key
use Rattle.pipeline_lang.specs.Tokens.{Token}
use Rattle.pipeline_lang.specs.Reading.{◌>>=◌, token_at, word_at, begins, behind, end_at, members_at}
use Rattle.pipeline_lang.specs.Terms.{name_at, own_at, number_at, expr_at, compare_at}

-- a statement over names as they are written
abbrev pub Raw : Type 0
Raw = Statement (List ℕ) (List ℕ) (List ℕ) (List ℕ)

-- a pair of a transaction: a variable, and the key that is read into it
abbrev pub Pair : Type 0
Pair = List ℕ × List ℕ

-- a write of a transaction: a key, and what is written to it
abbrev pub Written : Type 0
Written = List ℕ × Expr (List ℕ)

-- the word with which a statement begins
unfoldable pub keyword : List ℕ → Option Keyword
keyword word =
    cond (bytes_eq word (codes "let")) (Some key.Let) (
    cond (bytes_eq word (codes "read")) (Some key.Read) (
    cond (bytes_eq word (codes "write")) (Some key.Write) (
    cond (bytes_eq word (codes "snap")) (Some key.Snap) (
    cond (bytes_eq word (codes "txn")) (Some key.Txn) (
    cond (bytes_eq word (codes "spawn")) (Some key.Spawn) (
    cond (bytes_eq word (codes "wait")) (Some key.Wait) (
    cond (bytes_eq word (codes "put")) (Some key.Put) (
    cond (bytes_eq word (codes "take")) (Some key.Take) (
    cond (bytes_eq word (codes "close")) (Some key.Close) (
    cond (bytes_eq word (codes "fence")) (Some key.Fence) (
    cond (bytes_eq word (codes "repeat")) (Some key.Repeat) (
    cond (bytes_eq word (codes "when")) (Some key.When) (
    cond (bytes_eq word (codes "end")) (Some key.End) (
    cond (bytes_eq word (codes "exit")) (Some key.Exit) None))))))))))))))

-- `V = EXPR`
unfoldable pub let_at : List Token → Result (Raw × List Token) ℕ
let_at ts = do
  variable ← own_at ts
  rest ← word_at (codes "=") variable.1
  value ← expr_at rest
  Ok (statement.Let variable.0 value.0, value.1)

-- `V REG`
unfoldable pub read_at : List Token → Result (Raw × List Token) ℕ
read_at ts = do
  variable ← own_at ts
  register ← name_at variable.1
  Ok (statement.Read variable.0 register.0, register.1)

-- `REG EXPR`
unfoldable pub write_at : List Token → Result (Raw × List Token) ℕ
write_at ts = do
  register ← name_at ts
  value ← expr_at register.1
  Ok (statement.Write register.0 value.0, value.1)

-- `V KEY`
unfoldable pub pair_at : List Token → Result (Pair × List Token) ℕ
pair_at ts = do
  variable ← own_at ts
  read ← name_at variable.1
  Ok ((variable.0, read.0), read.1)

-- `KEY = EXPR`
unfoldable pub written_at : List Token → Result (Written × List Token) ℕ
written_at ts = do
  written ← name_at ts
  rest ← word_at (codes "=") written.1
  value ← expr_at rest
  Ok ((written.0, value.0), value.1)

-- pairs, with `,` between
abbrev pub pairs_at : List Token → Result (List Pair × List Token) ℕ
pairs_at ts = members_at pair_at (suc (length ts)) ts

-- writes, with `,` between
abbrev pub writes_at : List Token → Result (List Written × List Token) ℕ
writes_at ts = members_at written_at (suc (length ts)) ts

-- the pairs of a `snap`
unfoldable pub snap_at : List Token → Result (Raw × List Token) ℕ
snap_at ts = do
  pairs ← pairs_at ts
  Ok (statement.Snap pairs.0, pairs.1)

-- `when COMPARE` or nothing behind the pairs of a `txn`
unfoldable pub guard_at : List Token → Result (Option (Compare (List ℕ)) × List Token) ℕ
guard_at ts = cond (begins (codes "when") ts)
    (do
      guard ← compare_at (behind ts)
      Ok (Some guard.0, guard.1))
    (Ok (None, ts))

-- the pairs of a `txn` and its guard; there may be neither
unfoldable pub reads_at : List Token → Result ((List Pair × Option (Compare (List ℕ))) × List Token) ℕ
reads_at ts = cond (begins (codes ":") ts)
    (Ok (([], None), ts))
    (do
      pairs ← pairs_at ts
      guard ← guard_at pairs.1
      Ok ((pairs.0, guard.0), guard.1))

-- the pairs, the guard, `:` and the writes of a `txn`
unfoldable pub txn_at : List Token → Result (Raw × List Token) ℕ
txn_at ts = do
  reads ← reads_at ts
  rest ← word_at (codes ":") reads.1
  writes ← writes_at rest
  Ok (statement.Txn reads.0.0 reads.0.1 writes.0, writes.1)

-- a name, as the one part of a statement
abbrev pub named_at : (List ℕ → Raw) → List Token → Result (Raw × List Token) ℕ
named_at make ts = do
  name ← name_at ts
  Ok (make name.0, name.1)

-- `PIPE EXPR`
unfoldable pub put_at : List Token → Result (Raw × List Token) ℕ
put_at ts = do
  pipe ← name_at ts
  value ← expr_at pipe.1
  Ok (statement.Put pipe.0 value.0, value.1)

-- `V PIPE`
unfoldable pub take_at : List Token → Result (Raw × List Token) ℕ
take_at ts = do
  variable ← own_at ts
  pipe ← name_at variable.1
  Ok (statement.Take variable.0 pipe.0, pipe.1)

-- the count of a `repeat`
unfoldable pub repeat_at : List Token → Result (Raw × List Token) ℕ
repeat_at ts = do
  count ← number_at ts
  Ok (statement.Repeat count.0, count.1)

-- the comparison of a `when`
unfoldable pub when_at : List Token → Result (Raw × List Token) ℕ
when_at ts = do
  test ← compare_at ts
  Ok (statement.When test.0, test.1)

-- what stands behind the first word of a statement
unfoldable pub parts_at : Keyword → List Token → Result (Raw × List Token) ℕ
parts_at key.Let ts = let_at ts
parts_at key.Read ts = read_at ts
parts_at key.Write ts = write_at ts
parts_at key.Snap ts = snap_at ts
parts_at key.Txn ts = txn_at ts
parts_at key.Spawn ts = named_at statement.Spawn ts
parts_at key.Wait ts = named_at statement.Wait ts
parts_at key.Put ts = put_at ts
parts_at key.Take ts = take_at ts
parts_at key.Close ts = named_at statement.Close ts
parts_at key.Fence ts = Ok (statement.Fence, ts)
parts_at key.Repeat ts = repeat_at ts
parts_at key.When ts = when_at ts
parts_at key.End ts = Ok (statement.End, ts)
parts_at key.Exit ts = Ok (statement.Exit, ts)

-- the statement that these tokens spell from the first to the last
unfoldable pub statement_at : List Token → Result Raw ℕ
statement_at ts = do
  first ← token_at keyword ts
  parts ← parts_at first.0 first.1
  end ← end_at parts.1
  Ok parts.0
