-- The times of calls against their copies.
use Rattle.std.specs.Prelude.{◌≡◌, ℕ, ◌≤◌}
use Rattle.rss_names.specs.declared.service.ServiceId.TheVariants.{Txn}
use Rattle.causal_context.specs.LeastTimes.{least_of}
use Rattle.rss_model.specs.declared.op.Op.{Op}
use Rattle.rss_machine.specs.Session.{service_of}
use Rattle.rss_machine.specs.State.{State, owner_at}
use Rattle.rss_machine.specs.declared.session.OwnerKind.TheVariants as kind
use Rattle.rss_machine.specs.declared.state.OwnerFate.TheVariants.{Ended}
use Rattle.context_moves.specs.Views.{told_time}

-- where a call of a transaction service has ended, its time is not below its copy's least time
pub record TimesCover (f : State) : Type 0 where
  pub least : (o m : ℕ) (x : Op) → (owner_at f o).kind ≡ kind.Calling x → (owner_at f o).fate ≡ Ended → service_of x ≡ Txn m → least_of (owner_at f o).works.copy.least (Txn m) ≤ told_time (owner_at f o).session
