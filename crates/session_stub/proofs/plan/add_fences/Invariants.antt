use Rattle.std.proofs.Common.{◌≡◌, ◌≤◌, ◌+◌, ◌-◌, ◌++◌, vec_len, vec_capacity}
use Rattle.causal_context.specs.Services.{AreServices}
use Rattle.session_stub.specs.Picked.{fences_from}
use Rattle.session_stub.proofs.plan.add_fences.Given as goal

-- what was added, with what is still to be added, is the whole
abbrev pub invariant-loop-place : goal.invariant-loop-place
invariant-loop-place l = record {
  added : l.fences.items ++ fences_from l.context.seen l.except l.place (16 - l.place) ≡ l.fn.fences.items ++ fences_from l.context.seen l.except 0 16;
  longer : vec_len l.fences ≤ vec_len l.fn.fences + l.place;
  capacity : vec_capacity l.fn.fences ≤ vec_capacity l.fences;
  services : AreServices l.context.seen.last.services;
}
