-- What a file says of the pipes of its statements.
use Rattle.std.specs.Prelude.{ℕ, ◌<◌, ◌≤◌, ⊤, length}
use Rattle.pipeline_lang.specs.declared.config.Config.{Config}
use Rattle.pipeline_lang.specs.declared.script.Statement.TheVariants as statement
use Rattle.rss_model.specs.Cursor.{NumberedStatement}

-- a pipe of the file
abbrev pub PipeFits : Config → ℕ → Type 0
PipeFits c p = (0 < p) × (p ≤ length c.pipe_ends)

-- a statement puts into pipes of the file alone
abbrev pub PipesFit : Config → NumberedStatement → Type 0
PipesFit c (statement.Put p value) = PipeFits c p
PipesFit c (statement.Let variable value) = ⊤
PipesFit c (statement.Read variable key) = ⊤
PipesFit c (statement.Write key value) = ⊤
PipesFit c (statement.Snap pairs) = ⊤
PipesFit c (statement.Txn pairs guard writes) = ⊤
PipesFit c (statement.Spawn child) = ⊤
PipesFit c (statement.Wait child) = ⊤
PipesFit c (statement.Take variable p) = ⊤
PipesFit c (statement.Close p) = ⊤
PipesFit c statement.Fence = ⊤
PipesFit c (statement.Repeat times) = ⊤
PipesFit c (statement.When test) = ⊤
PipesFit c statement.End = ⊤
PipesFit c statement.Exit = ⊤
