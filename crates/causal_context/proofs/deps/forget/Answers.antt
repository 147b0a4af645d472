use Rattle.std.proofs.Common.{rules}
use Rattle.std.proofs.lemmas.Fn.{filter_same}
use Rattle.causal_context.proofs.deps.forget.Goals as goal

pub returns-clause-same : goal.returns-clause-same
returns-clause-same c = filter_same _ _ _ (λ x b f' k. search rules) _ _ c.retain.ensures.filtered
