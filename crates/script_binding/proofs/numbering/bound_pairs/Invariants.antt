use Rattle.std.proofs.Common.{◌≡◌, ◌++◌, drop}
use Rattle.script_binding.specs.Naming.{naming}
use Rattle.script_binding.specs.Numbering.{bound_pairs}
use Rattle.script_binding.proofs.numbering.bound_pairs.Given as goal

-- what was bound and what is left to bind are the whole
abbrev pub invariant-loop-pair : goal.invariant-loop-pair
invariant-loop-pair l =
    l.out ++ bound_pairs (naming l.names) l.variables (drop l.pair-index l.pairs) ≡ bound_pairs (naming l.names) l.variables l.pairs
