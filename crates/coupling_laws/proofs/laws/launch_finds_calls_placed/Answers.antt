use Rattle.coupling_laws.proofs.Fences.{launched_same, launched_other, launched_register}
use Rattle.coupling_laws.proofs.laws.launch_finds_calls_placed.Goals as goal

pub returns : goal.returns
returns c = record { same = launched_same; other = launched_other; register = launched_register }
