use Rattle.coupling_laws.proofs.Ends.{read_ends}
use Rattle.coupling_laws.proofs.laws.context_with_a_read_covers.Goals as goal

pub returns : goal.returns
returns c = λ v behind x call number dep k o e s at d w y z. read_ends v behind x call number dep k o e s at d w y z
