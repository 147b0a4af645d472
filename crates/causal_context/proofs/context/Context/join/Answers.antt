use Rattle.std.proofs.Common.{sym, subst}
use Rattle.causal_context.specs.Deps.{AreAscending}
use Rattle.causal_context.proofs.Ascending.{ascending_joined}
use Rattle.causal_context.proofs.context.Context.join.Goals as goal

pub invariant_of-self-2 : goal.invariant_of-self-2
invariant_of-self-2 c = (c.join_least.ensures.long, subst AreAscending (sym c.in_ok-join.ensures.joined) (ascending_joined c.self.inside.deps.items c.as_slice.result.now c.self.invariant.1))
