use Rattle.std.proofs.Common.{◌≡◌, ◌+◌, ◌++◌, drop}
use Rattle.pipeline_file.specs.Declarations.{gather}
use Rattle.pipeline_file.proofs.declaration.gather.Given as goal

-- what was declared and what is left to declare are the whole
abbrev pub invariant-loop-index : goal.invariant-loop-index
invariant-loop-index g l = l.list ++ gather g.T.Declares.declared (l.index + 1) (drop l.index l.rows) ≡ l.initial.list ++ gather g.T.Declares.declared 1 l.rows
