use Rattle.group_laws.proofs.Runs.{steps_keep_groups_sound}
use Rattle.group_laws.proofs.laws.steps_keep_groups_sound.Goals as goal

pub returns : goal.returns
returns c = steps_keep_groups_sound
