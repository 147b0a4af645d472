use Rattle.std.proofs.Common.{◌≡◌, ◌++◌, drop}
use Rattle.pipeline_file.specs.Doubles.{names_of}
use Rattle.pipeline_file.proofs.Distinct.{Fresh}
use Rattle.pipeline_file.proofs.doubles.table_of.Given as goal

-- the names so far and those that are left are all, and none that is left is in the table
abbrev pub invariant-loop-declaration : goal.invariant-loop-declaration
invariant-loop-declaration l = (l.table ++ names_of l.kind (drop l.declaration-index l.declarations) ≡ names_of l.kind l.declarations) × Fresh l.table (drop l.declaration-index l.declarations)
