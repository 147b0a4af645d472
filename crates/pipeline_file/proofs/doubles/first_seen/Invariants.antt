use Rattle.std.proofs.Common.{◌≡◌, drop}
use Rattle.pipeline_file.specs.Doubles.{first_double}
use Rattle.pipeline_file.proofs.doubles.first_seen.Given as goal

-- the first double of those that are left is that of all
abbrev pub invariant-loop-declaration : goal.invariant-loop-declaration
invariant-loop-declaration l = first_double l.names l.seen (drop l.declaration-index l.declarations) ≡ first_double l.names l.fn.seen l.declarations
