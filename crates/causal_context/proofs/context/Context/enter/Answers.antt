use Rattle.causal_context.proofs.context.Context.enter.Goals as goal

pub invariant_of-self : goal.invariant_of-self
invariant_of-self c = (c.raise_least.ensures.long, c.self.invariant.1)
