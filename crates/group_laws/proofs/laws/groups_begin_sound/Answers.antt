use Rattle.group_laws.proofs.Runs.{groups_begin_sound}
use Rattle.group_laws.proofs.laws.groups_begin_sound.Goals as goal

pub returns : goal.returns
returns c = groups_begin_sound
