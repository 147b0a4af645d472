use Rattle.order_laws.proofs.Parts.{closure_before}
use Rattle.order_laws.proofs.regular.causality_follows_its_generating_pairs.Goals as goal

pub returns : goal.returns
returns c = closure_before
