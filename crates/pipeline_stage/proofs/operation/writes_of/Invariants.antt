use Rattle.std.proofs.Common.{◌≡◌, ◌++◌, map, drop}
use Rattle.rss_model.specs.CallStatement.{bound_formula}
use Rattle.pipeline_stage.proofs.operation.writes_of.Given as goal

-- the writes that were passed and those that are left are all
abbrev pub invariant-loop-write : goal.invariant-loop-write
invariant-loop-write l = l.made.items ++ map (λ write. (write.0, bound_formula l.pairs l.variables write.1)) (drop l.write-index l.writes) ≡ map (λ write. (write.0, bound_formula l.pairs l.variables write.1)) l.writes
