-- What the code tells of statements.
use Rattle.std.specs.Prelude.{ℕ, ◌≤◌, ⊤, Bool, true, false, List, length, Option, option_map, if◌then◌else◌}
use Rattle.rss_names.specs.declared.service.Key.{Key}
use Rattle.pipeline_lang.specs.declared.script.Compare.{Compare}
use Rattle.pipeline_lang.specs.declared.script.Statement.TheVariants as statement
use Rattle.rss_model.specs.Cursor.{NumberedStatement}
use Rattle.rss_model.specs.CallStatement.{bound_guard}
use Rattle.rss_model.specs.Formula.{guard_value}

-- whether a statement may open a block
abbrev pub opens_block : NumberedStatement → Bool
opens_block (statement.Repeat turns) = true
opens_block (statement.When test) = true
opens_block (statement.Let variable value) = false
opens_block (statement.Read variable key) = false
opens_block (statement.Write key value) = false
opens_block (statement.Snap pairs) = false
opens_block (statement.Txn pairs guard writes) = false
opens_block (statement.Spawn stage) = false
opens_block (statement.Wait stage) = false
opens_block (statement.Put pipe value) = false
opens_block (statement.Take variable pipe) = false
opens_block (statement.Close pipe) = false
opens_block statement.Fence = false
opens_block statement.End = false
opens_block statement.Exit = false

-- a transaction reads eight keys at most
abbrev pub HasFewReads : NumberedStatement → Type 0
HasFewReads (statement.Txn pairs guard writes) = length pairs ≤ 8
HasFewReads (statement.Let variable value) = ⊤
HasFewReads (statement.Read variable key) = ⊤
HasFewReads (statement.Write key value) = ⊤
HasFewReads (statement.Snap pairs) = ⊤
HasFewReads (statement.Spawn stage) = ⊤
HasFewReads (statement.Wait stage) = ⊤
HasFewReads (statement.Put pipe value) = ⊤
HasFewReads (statement.Take variable pipe) = ⊤
HasFewReads (statement.Close pipe) = ⊤
HasFewReads statement.Fence = ⊤
HasFewReads (statement.Repeat turns) = ⊤
HasFewReads (statement.When test) = ⊤
HasFewReads statement.End = ⊤
HasFewReads statement.Exit = ⊤

-- the status that a guard sets
abbrev pub status_by : List (ℕ × Key) → List ℕ → List ℕ → Compare ℕ → ℕ
status_by pairs variables values guard =
    if guard_value (bound_guard pairs variables guard) values then 0 else 1

-- the status that a transaction sets, if it has a guard
abbrev pub verdict_of : Option (Compare ℕ) → List (ℕ × Key) → List ℕ → List ℕ → Option ℕ
verdict_of guard pairs variables values = option_map (status_by pairs variables values) guard
