use Rattle.std.proofs.Common.{◌≡◌, ◌-◌, ◌+◌, ◌≤◌, length, drop, vec_len, vec_capacity}
use Rattle.causal_context.specs.Deps.{deps_joined}
use Rattle.causal_context.proofs.deps.join.Given as goal

-- what was put, and what is left to put, are the whole; and there is room for what is left
abbrev pub invariant-loop-dep : goal.invariant-loop-dep
invariant-loop-dep l =
    (deps_joined l.deps.items (drop l.dep-index l.others) ≡ deps_joined l.fn.deps.items l.others)
    × (vec_len l.deps + (length l.others - l.dep-index) ≤ vec_capacity l.deps)
    × (vec_capacity l.fn.deps ≤ vec_capacity l.deps)
