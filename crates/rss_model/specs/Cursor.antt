-- Where a script stands, and what the statements do that concern the script alone.
use Rattle.std.specs.Prelude.{ℕ, zero, suc, ◌+◌, ◌-◌, Bool, true, false, List, [], ◌∷◌, set, drop, nat_lt, if◌then◌else◌}
use Rattle.rss_names.specs.declared.service.Key.{Key}
use Rattle.pipeline_lang.specs.declared.script.Statement.{Statement}
use Rattle.pipeline_lang.specs.declared.script.Statement.TheVariants.{Let, Read, Write, Snap, Txn, Spawn, Wait, Put, Take, Close, Fence, Repeat, When, End, Exit}
use Rattle.rss_model.specs.Formula.{formula_value, guard_value}

-- a statement over numbers: variables, keys, stages and pipes
abbrev pub NumberedStatement : Type 0
NumberedStatement = Statement ℕ Key ℕ ℕ

-- an open block: the position of its first statement, and its turns left, this one included
pub record Block : Type 0 where
  pub first : ℕ
  pub turns : ℕ

-- the next statement's position, the open blocks from the inside out, the variables by number
pub record Cursor : Type 0 where
  pub position : ℕ
  pub blocks : List Block
  pub variables : List ℕ

-- on to the next statement
abbrev pub next_cursor : Cursor → Cursor
next_cursor at = record at { position = at.position + 1 }

-- a variable set to a value; `status` is variable 0
abbrev pub with_variable : Cursor → ℕ → ℕ → Cursor
with_variable at variable value = record at { variables = set at.variables variable value }

-- into a block that runs so many times
abbrev pub cursor_in_block : Cursor → ℕ → Cursor
cursor_in_block at turns = record at {
  position = at.position + 1;
  blocks = record { first = at.position + 1; turns = turns } ∷ at.blocks;
}

-- behind an `end`: in the innermost block again while it has turns left, and else past it
abbrev pub cursor_after_end : Cursor → List Block → Cursor
cursor_after_end at [] = next_cursor at
cursor_after_end at (b ∷ blocks) =
    if nat_lt 1 b.turns
    then record at { position = b.first; blocks = record b { turns = b.turns - 1 } ∷ blocks }
    else record at { position = at.position + 1; blocks = blocks }

-- how many blocks are open behind a statement, where so many are open before it
abbrev pub depth_after : NumberedStatement → ℕ → ℕ
depth_after (Let variable value) depth = depth
depth_after (Read variable key) depth = depth
depth_after (Write key value) depth = depth
depth_after (Snap pairs) depth = depth
depth_after (Txn pairs guard writes) depth = depth
depth_after (Spawn stage) depth = depth
depth_after (Wait stage) depth = depth
depth_after (Put pipe value) depth = depth
depth_after (Take variable pipe) depth = depth
depth_after (Close pipe) depth = depth
depth_after Fence depth = depth
depth_after (Repeat turns) depth = depth + 1
depth_after (When test) depth = depth + 1
depth_after End depth = depth - 1
depth_after Exit depth = depth

-- how many statements stand up to the `end` that closes so many blocks, with it
unfoldable pub statements_to_end : ℕ → List NumberedStatement → ℕ
statements_to_end zero statements = 0
statements_to_end (suc depth) [] = 0
statements_to_end (suc depth) (s ∷ rest) =
    suc (statements_to_end (depth_after s (suc depth)) rest)

-- past the `end` of the block that begins behind this statement
abbrev pub cursor_past_block : List NumberedStatement → Cursor → Cursor
cursor_past_block script at = record at {
  position = at.position + 1 + statements_to_end 1 (drop (at.position + 1) script);
}

-- whether a statement concerns the script alone
abbrev pub is_local : NumberedStatement → Bool
is_local (Let variable value) = true
is_local (Read variable key) = false
is_local (Write key value) = false
is_local (Snap pairs) = false
is_local (Txn pairs guard writes) = false
is_local (Spawn stage) = false
is_local (Wait stage) = false
is_local (Put pipe value) = false
is_local (Take variable pipe) = false
is_local (Close pipe) = false
is_local Fence = false
is_local (Repeat turns) = true
is_local (When test) = true
is_local End = true
is_local Exit = false

-- what a `let`, `repeat`, `when` or `end` does
abbrev pub after_local : List NumberedStatement → Cursor → NumberedStatement → Cursor
after_local script at (Let variable value) =
    next_cursor (with_variable at variable (formula_value value at.variables))
after_local script at (Repeat turns) = cursor_in_block at turns
after_local script at (When test) =
    if guard_value test at.variables then cursor_in_block at 1 else cursor_past_block script at
after_local script at End = cursor_after_end at at.blocks
after_local script at (Read variable key) = at
after_local script at (Write key value) = at
after_local script at (Snap pairs) = at
after_local script at (Txn pairs guard writes) = at
after_local script at (Spawn stage) = at
after_local script at (Wait stage) = at
after_local script at (Put pipe value) = at
after_local script at (Take variable pipe) = at
after_local script at (Close pipe) = at
after_local script at Fence = at
after_local script at Exit = at
