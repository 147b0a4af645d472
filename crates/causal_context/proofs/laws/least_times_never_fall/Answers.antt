use Rattle.causal_context.proofs.SeenKept.{entry_holds, join_holds_first, join_holds_second}
use Rattle.causal_context.proofs.laws.least_times_never_fall.Goals as goal

pub returns : goal.returns
returns c = record { entry = entry_holds; first = join_holds_first; second = join_holds_second }
