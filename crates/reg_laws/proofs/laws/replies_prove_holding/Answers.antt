-- Replies prove what replicas hold.
use Rattle.reg_laws.proofs.Proves.{prove_run}
use Rattle.reg_laws.proofs.laws.replies_prove_holding.Goals as goal

pub returns : goal.returns
returns c = prove_run
