use Rattle.causal_context.proofs.context.Context.after_txn.Goals as goal

pub invariant_of-self : goal.invariant_of-self
invariant_of-self c = (c.set_least.ensures.long, c.self.invariant.1)
