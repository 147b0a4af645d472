use Rattle.session_laws.proofs.Keeps.{snap_start_same, snap_turn_same, snap_wake_same, snap_frames_stay}
use Rattle.session_laws.proofs.sessions.snapshots_keep_what_they_are.Goals as goal

pub returns-clause-starts : goal.returns-clause-starts
returns-clause-starts c = snap_start_same

pub returns-clause-hears : goal.returns-clause-hears
returns-clause-hears c = snap_turn_same

pub returns-clause-wakes : goal.returns-clause-wakes
returns-clause-wakes c = snap_wake_same

pub returns-clause-stays : goal.returns-clause-stays
returns-clause-stays c = snap_frames_stay
