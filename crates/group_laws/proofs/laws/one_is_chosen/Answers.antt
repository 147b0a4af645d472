use Rattle.group_laws.proofs.Runs.{one_is_chosen}
use Rattle.group_laws.proofs.laws.one_is_chosen.Goals as goal

pub returns : goal.returns
returns c = one_is_chosen
