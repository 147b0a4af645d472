use Rattle.session_laws.proofs.Shown.{shown_on_line}
use Rattle.session_laws.proofs.lines.lines_that_alone_show_a_key_are_read.Goals as goal

pub returns : goal.returns
returns c = shown_on_line
