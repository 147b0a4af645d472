use Rattle.order_laws.proofs.SetBySet.{legal_by_each_set}
use Rattle.order_laws.proofs.legal.legal_set_by_set.Goals as goal

pub returns : goal.returns
returns c = legal_by_each_set
