use Rattle.std.proofs.Common.{◌≡◌, ◌<◌, ◌-◌, vec_len}
use Rattle.std.specs.List.{All}
use Rattle.std.specs.Prelude.{get_or}
use Rattle.causal_context.specs.ContextView.{ContextView, empty_context}
use Rattle.pipeline_stage.proofs.copies.Copies.of.Given as goal

-- there is one copy at least, and all are of the context
abbrev pub invariant-loop-alloc : goal.invariant-loop-alloc
invariant-loop-alloc l = record {
  some : 0 < vec_len l.copies;
  first : (get_or l.copies.items 0 empty_context).seen ≡ l.context.seen;
  all : All (λ (copy : ContextView). copy.seen ≡ l.context.seen) l.copies.items;
}

abbrev pub decreases-loop-alloc : goal.decreases-loop-alloc
decreases-loop-alloc l = l.count - vec_len l.copies
