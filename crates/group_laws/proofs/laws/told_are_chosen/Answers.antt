use Rattle.group_laws.proofs.Runs.{told_are_chosen}
use Rattle.group_laws.proofs.laws.told_are_chosen.Goals as goal

pub returns : goal.returns
returns c = told_are_chosen
