use Rattle.std.proofs.Common.{sym, subst}
use Rattle.causal_context.specs.Deps.{AreAscending}
use Rattle.causal_context.proofs.Ascending.{ascending_fenced}
use Rattle.causal_context.proofs.context.Context.after_fence.Goals as goal

pub invariant_of-self : goal.invariant_of-self
invariant_of-self c = (c.self.invariant.0, subst AreAscending (sym c.fence.ensures.same) (ascending_fenced c.args.id c.self.inside.deps.items c.self.invariant.1))
