use Rattle.session_laws.proofs.Frames.{lines_of_apart, lines_of_bounds, line_at_nth, with_line_frames}
use Rattle.session_laws.proofs.lines.lines_of_a_call_are_of_shards_apart.Goals as goal

pub returns-clause-apart : goal.returns-clause-apart
returns-clause-apart c = lines_of_apart

pub returns-clause-bounds : goal.returns-clause-bounds
returns-clause-bounds c = lines_of_bounds

pub returns-clause-found : goal.returns-clause-found
returns-clause-found c = line_at_nth

pub returns-clause-replaced : goal.returns-clause-replaced
returns-clause-replaced c = with_line_frames
