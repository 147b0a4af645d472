-- How the works that an owner has left fit its copy of a context.
use Rattle.std.specs.Prelude.{◌≡◌, ℕ, Bool, true, false, ◌||◌, ◌&&◌, not, ◌⊎◌, ⊤, All, List, [], ◌∷◌, Option, Some, None}
use Rattle.rss_names.specs.Services.{same_service}
use Rattle.rss_names.specs.declared.service.ServiceId.{ServiceId}
use Rattle.rss_names.specs.declared.service.ServiceId.TheVariants.{Txn, Reg}
use Rattle.causal_context.specs.Deps.{deps_of}
use Rattle.causal_context.specs.LeastTimes.{least_of}
use Rattle.causal_context.specs.Seen.{Seen}
use Rattle.causal_context.specs.Services.{has_service}
use Rattle.rss_tables.specs.Works.{Works}
use Rattle.rss_tables.specs.declared.fences.FenceWork.{FenceWork}
use Rattle.rss_tables.specs.declared.fences.FenceWork.TheVariants.{Nothing, Past, Fix}
use Rattle.rss_model.specs.declared.op.Op.{Op}
use Rattle.rss_tables.specs.RegisterSession.{RegSession}
use Rattle.rss_machine.specs.Session.{Session, service_of}
use Rattle.rss_machine.specs.State.{State, owner_at}
use Rattle.rss_machine.specs.declared.session.OwnerKind.{OwnerKind}
use Rattle.rss_machine.specs.declared.session.OwnerKind.TheVariants as kind
use Rattle.rss_machine.specs.declared.session.Session.TheVariants as session
use Rattle.world_laws.specs.Calls.{is_own}

-- whether one of these works is the fence of a service
abbrev pub has_work : List (ServiceId × FenceWork) → ServiceId → Bool
has_work [] id = false
has_work (work ∷ works) id = same_service id work.0 || has_work works id

-- a work is what the context owes its service: a transaction service its least time, a register service nothing or
-- the dependencies on its registers
abbrev pub FitsContext : Seen → ServiceId → FenceWork → Type 0
FitsContext seen (Txn n) Nothing = ⊥
FitsContext seen (Txn n) (Past time) = time ≡ least_of seen.least (Txn n)
FitsContext seen (Txn n) Fix = ⊥
FitsContext seen (Reg n) Nothing = deps_of (Reg n) seen.deps ≡ []
FitsContext seen (Reg n) (Past time) = ⊥
FitsContext seen (Reg n) Fix = ⊤

-- the works left of an owner, which calls a service or none: each service used last, but its own, has one, which fits;
-- a call has none of its own service, and where it is not to enter it any more nothing outside was used last
pub record ArePlanned (own : Option ServiceId) (w : Works) : Type 0 where
  pub last : (id : ServiceId) → has_service w.copy.last.services id ≡ true → (own ≡ Some id) ⊎ (has_work w.left id ≡ true)
  pub fits : All (λ (work : ServiceId × FenceWork). FitsContext w.copy work.0 work.1) w.left
  pub apart : (id : ServiceId) → own ≡ Some id → has_work w.left id ≡ false
  pub inside : (id : ServiceId) → own ≡ Some id → w.enter ≡ false → (w.left ≡ []) × (w.copy.last.outside ≡ false)

-- the service that an owner calls
abbrev pub called_service : OwnerKind → Option ServiceId
called_service (kind.Calling x) = Some (service_of x)
called_service kind.Fencing = None
called_service (kind.Stubbing u) = None

-- whether an owner's works are planned: a stub plans them once it has started and settled what its stage left
abbrev pub is_settling : Session → Bool
is_settling session.Idle = false
is_settling (session.Fixing r) = false
is_settling (session.Register r) = false
is_settling (session.Transaction t) = false
is_settling (session.Snapshot t) = false
is_settling (session.Settling attempt shards) = true

abbrev pub has_planned : OwnerKind → Bool → Session → Bool
has_planned (kind.Calling x) started s = true
has_planned kind.Fencing started s = true
has_planned (kind.Stubbing u) started s = started && not (is_settling s)

-- the works of all owners are planned; and a call that has rounds of its own under way has no works left, and its
-- copy used no service but its own last
pub record WorksPlanned (s : State) : Type 0 where
  pub each : (o : ℕ) → has_planned (owner_at s o).kind (owner_at s o).started (owner_at s o).session ≡ true → ArePlanned (called_service (owner_at s o).kind) (owner_at s o).works
  pub own : (o : ℕ) (x : Op) (r : RegSession) → (owner_at s o).kind ≡ kind.Calling x → (owner_at s o).session ≡ session.Register r → ((owner_at s o).works.left ≡ []) × ((id : ServiceId) → has_service (owner_at s o).works.copy.last.services id ≡ true → service_of x ≡ id)
  pub alone : (o : ℕ) (x : Op) → (owner_at s o).kind ≡ kind.Calling x → is_own (owner_at s o).session ≡ true → ((owner_at s o).works.left ≡ []) × ((id : ServiceId) → has_service (owner_at s o).works.copy.last.services id ≡ true → service_of x ≡ id)
