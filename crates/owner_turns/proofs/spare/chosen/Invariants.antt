use Rattle.std.proofs.Common.{◌≡◌, ◌≤◌, ◌+◌, ◌++◌, drop, length, vec_capacity, vec_len}
use Rattle.causal_context.specs.Deps.{deps_of}
use Rattle.owner_turns.proofs.spare.chosen.Given as goal

abbrev pub invariant-loop-dep : goal.invariant-loop-dep
invariant-loop-dep l = record {
  chosen : l.list.items ++ deps_of l.id (drop l.dep-index l.deps) ≡ deps_of l.id l.deps;
  room : length l.deps ≤ vec_capacity l.list;
  few : vec_len l.list ≤ l.dep-index;
}
