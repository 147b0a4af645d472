use Rattle.order_laws.proofs.FromLastWriters.{legal_from_last_writers}
use Rattle.order_laws.proofs.legal.legal_by_last_writers.Goals as goal

pub returns : goal.returns
returns c = legal_from_last_writers
