use Rattle.plain_model.proofs.Closure.{given_all}
use Rattle.plain_model.proofs.causality.causal.Goals as goal

pub returns : goal.returns
returns c = given_all (λ v. v.items) c.args.h.now c.as_slice.result.now c.causes.result c.as_slice.ensures c.causes.ensures
