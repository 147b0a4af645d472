use Rattle.fence_laws.proofs.Ends as ends
use Rattle.fence_laws.proofs.laws.fences_end_when_times_have_come.Goals as goal

pub returns : goal.returns
returns c = ends.fences_end
