use Rattle.std.proofs.Common.{◌≡◌, ◌++◌, take, drop}
use Rattle.causal_context.specs.Deps.{put_dep}
use Rattle.causal_context.proofs.deps.place_for.Given as goal

-- the dependency belongs behind those that were passed
abbrev pub invariant-loop-place : goal.invariant-loop-place
invariant-loop-place l = put_dep l.dep l.deps ≡ take l.place l.deps ++ put_dep l.dep (drop l.place l.deps)
