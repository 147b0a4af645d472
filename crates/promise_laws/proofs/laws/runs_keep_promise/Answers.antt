-- Every run keeps the promise.
use Rattle.promise_laws.proofs.Promised.{promised_run}
use Rattle.promise_laws.proofs.laws.runs_keep_promise.Goals as goal

pub returns : goal.returns
returns g = promised_run
