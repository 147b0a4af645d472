use Rattle.coupling_laws.proofs.Places.{joined}
use Rattle.coupling_laws.proofs.laws.joined_contexts_cover.Goals as goal

pub returns : goal.returns
returns c = λ v behind calls x y i k m. joined v behind calls x y i k m
