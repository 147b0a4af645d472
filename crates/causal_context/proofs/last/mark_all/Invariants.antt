use Rattle.std.proofs.Common.{◌≡◌, drop}
use Rattle.causal_context.specs.Services.{services_joined}
use Rattle.causal_context.specs.Marks.{marked_from}
use Rattle.causal_context.proofs.last.mark_all.Given as goal

-- what is marked, and what is left to mark, are the whole
abbrev pub invariant-loop-place : goal.invariant-loop-place
invariant-loop-place l =
    services_joined (marked_from 0 l.marks) (marked_from l.place (drop l.place l.others)) ≡ services_joined (marked_from 0 l.fn.marks) (marked_from 0 l.others)
