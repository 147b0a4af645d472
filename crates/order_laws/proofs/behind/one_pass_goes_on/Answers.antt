use Rattle.order_laws.proofs.PassGoesOn.{pass_more}
use Rattle.order_laws.proofs.behind.one_pass_goes_on.Goals as goal

pub returns : goal.returns
returns c = pass_more
