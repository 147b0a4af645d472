use Rattle.coupling_laws.proofs.Ends.{txn_ends}
use Rattle.coupling_laws.proofs.laws.context_with_a_transaction_covers.Goals as goal

pub returns : goal.returns
returns c = λ v behind x call number i k o e s l at d. txn_ends v behind x call number i k o e s l at d
