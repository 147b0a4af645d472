use Rattle.order_laws.proofs.FromLastWriters.{legal_from_sets}
use Rattle.order_laws.proofs.legal.legal_by_sets_of_keys.Goals as goal

pub returns : goal.returns
returns c = legal_from_sets
