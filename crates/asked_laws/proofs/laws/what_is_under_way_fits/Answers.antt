-- What is under way fits.
use Rattle.txn_line_laws.proofs.True.{true_run}
use Rattle.asked_laws.proofs.laws.what_is_under_way_fits.Goals as goal

pub returns-clause-under_way : goal.returns-clause-under_way
returns-clause-under_way g = λ c steps s f a e. (true_run c steps s f.keys a e).under

pub returns-clause-told : goal.returns-clause-told
returns-clause-told g = λ c steps s f a e. (true_run c steps s f.keys a e).told

pub returns-clause-just : goal.returns-clause-just
returns-clause-just g = λ c steps s f a e. (true_run c steps s f.keys a e).just

pub returns-clause-decided : goal.returns-clause-decided
returns-clause-decided g = λ c steps s f a e. (true_run c steps s f.keys a e).decided
