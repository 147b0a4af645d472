-- Shards keep what they tell.
use Rattle.txn_line_laws.proofs.True.{true_run}
use Rattle.asked_laws.proofs.laws.shards_keep_what_they_tell.Goals as goal

pub returns-clause-orderly : goal.returns-clause-orderly
returns-clause-orderly g = λ c steps s f a e. (true_run c steps s f.keys a e).orderly

pub returns-clause-voted : goal.returns-clause-voted
returns-clause-voted g = λ c steps s f a e. (true_run c steps s f.keys a e).voted

pub returns-clause-closing : goal.returns-clause-closing
returns-clause-closing g = λ c steps s f a e. (true_run c steps s f.keys a e).closing

pub returns-clause-passed : goal.returns-clause-passed
returns-clause-passed g = λ c steps s f a e. (true_run c steps s f.keys a e).passed

pub returns-clause-dated : goal.returns-clause-dated
returns-clause-dated g = λ c steps s f a e. (true_run c steps s f.keys a e).dated

pub returns-clause-fresh : goal.returns-clause-fresh
returns-clause-fresh g = λ c steps s f a e. (true_run c steps s f.keys a e).fresh
