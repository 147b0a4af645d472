use Rattle.std.proofs.Common.{◌≡◌, ◌++◌, drop}
use Rattle.pipeline_file.specs.Declarations.{declare_all}
use Rattle.pipeline_file.proofs.declaration.declare_all.Given as goal

-- what was declared and what is left to declare are the whole
abbrev pub invariant-loop-name : goal.invariant-loop-name
invariant-loop-name l = l.list ++ declare_all l.kind l.place (drop l.name-index l.names) ≡ l.initial.list ++ declare_all l.kind l.place l.names
