-- Contexts have their form.
use Rattle.seen_laws.proofs.Forms.{have_form}
use Rattle.seen_laws.proofs.laws.contexts_have_form.Goals as goal

pub returns : goal.returns
returns g = have_form
