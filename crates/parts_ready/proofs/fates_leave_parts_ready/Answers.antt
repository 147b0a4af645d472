use Rattle.parts_ready.proofs.Readying.{ready_fate}
use Rattle.parts_ready.proofs.fates_leave_parts_ready.Goals as goal

pub returns : goal.returns
returns c = ready_fate
