use Rattle.std.proofs.Common.{◌≡◌, ◌++◌, map, drop}
use Rattle.pipeline_stage.proofs.operation.keys_of.Given as goal

-- the keys that were passed and those that are left are all
abbrev pub invariant-loop-pair : goal.invariant-loop-pair
invariant-loop-pair l = l.keys.items ++ map (λ pair. pair.1) (drop l.pair-index l.pairs) ≡ map (λ pair. pair.1) l.pairs
