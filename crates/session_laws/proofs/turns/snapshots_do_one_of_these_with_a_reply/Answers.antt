use Rattle.session_laws.proofs.SnapCases.{snap_case}
use Rattle.session_laws.proofs.turns.snapshots_do_one_of_these_with_a_reply.Goals as goal

pub returns : goal.returns
returns c = snap_case
