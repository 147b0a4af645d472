use Rattle.session_laws.proofs.Shown.{computed_on, computed_fits}
use Rattle.session_laws.proofs.lines.writes_on_a_line_are_those_of_its_keys.Goals as goal

pub returns-clause-values : goal.returns-clause-values
returns-clause-values c = computed_on

pub returns-clause-fits : goal.returns-clause-fits
returns-clause-fits c = computed_fits
