-- Every file that is read is sound.
use Rattle.sound_laws.proofs.Sound.{files_are_sound}
use Rattle.sound_laws.proofs.laws.files_are_sound.Goals as goal

pub returns : goal.returns
returns g = files_are_sound
