-- The least times of calls that have entered their service, against the true moments of the steps in which they did.
use Rattle.std.specs.Prelude.{◌≡◌, ℕ, ◌<◌, ◌≤◌, Bool, true, false}
use Rattle.rss_names.specs.declared.service.ServiceId.{ServiceId}
use Rattle.rss_names.specs.declared.service.ServiceId.TheVariants.{Txn, Reg}
use Rattle.causal_context.specs.LeastTimes.{least_of}
use Rattle.rss_model.specs.declared.op.Op.{Op}
use Rattle.rss_machine.specs.Session.{service_of}
use Rattle.rss_machine.specs.State.{State, owner_at}
use Rattle.rss_machine.specs.declared.session.OwnerKind.TheVariants as kind
use Rattle.shard_event_laws.specs.Known.{moment_at}

-- whether a service is one of transactions
abbrev pub is_txn_service : ServiceId → Bool
is_txn_service (Txn number) = true
is_txn_service (Reg number) = false

-- who has entered a service of transactions in a step has a least time there of that step's moment or later
pub record AllEntered (s : State) : Type 0 where
  pub entered : (o : ℕ) → (owner_at s o).dates.entered ≤ s.steps
  pub raised : (o : ℕ) (x : Op) → (owner_at s o).kind ≡ kind.Calling x → is_txn_service (service_of x) ≡ true → 0 < (owner_at s o).dates.entered
      → moment_at s (owner_at s o).dates.entered ≤ least_of (owner_at s o).works.copy.least (service_of x)
