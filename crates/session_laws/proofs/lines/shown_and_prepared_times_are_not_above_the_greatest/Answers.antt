use Rattle.session_laws.proofs.Shown.{greatest_shown_above, greatest_prepared_above}
use Rattle.session_laws.proofs.lines.shown_and_prepared_times_are_not_above_the_greatest.Goals as goal

pub returns-clause-shown : goal.returns-clause-shown
returns-clause-shown c = greatest_shown_above

pub returns-clause-prepared : goal.returns-clause-prepared
returns-clause-prepared c = greatest_prepared_above
