-- What an owner has under way is of what it does: a call's rounds are of its operation, a round of
-- dependencies stores what the owner's copy depends on, and a stub settles what its stage left.
use Rattle.std.specs.Prelude.{◌≡◌, ℕ, ⊤, List, [], ◌∷◌, Some, Option}
use Rattle.rss_names.specs.declared.service.Key.{Key}
use Rattle.rss_names.specs.declared.service.ServiceId.{ServiceId}
use Rattle.causal_context.specs.Deps.{deps_of}
use Rattle.pipeline_lang.specs.declared.script.Compare.{Compare}
use Rattle.pipeline_lang.specs.declared.script.Expr.{Expr}
use Rattle.rss_model.specs.declared.op.Op.{Op}
use Rattle.rss_model.specs.declared.op.Op.TheVariants as op
use Rattle.rss_tables.specs.RegisterSession.{RegSession}
use Rattle.rss_tables.specs.declared.fences.FenceWork.{FenceWork}
use Rattle.rss_tables.specs.declared.register_session.RegEnd.TheVariants as ends
use Rattle.rss_tables.specs.declared.register_session.RegPhase.{RegPhase}
use Rattle.rss_tables.specs.declared.register_session.RegPhase.TheVariants as phase
use Rattle.rss_tables.specs.declared.register_session.RegWork.{RegWork}
use Rattle.rss_tables.specs.declared.register_session.RegWork.TheVariants as work
use Rattle.rss_machine.specs.Session.{Session, service_of}
use Rattle.rss_machine.specs.State.{State, Owner, owner_at}
use Rattle.rss_machine.specs.declared.session.OwnerKind.{OwnerKind}
use Rattle.rss_machine.specs.declared.session.OwnerKind.TheVariants as kind
use Rattle.rss_machine.specs.declared.session.Session.TheVariants as session

-- a register call's work is its operation
abbrev pub WorkAgrees : RegWork → OwnerKind → Type 0
WorkAgrees (work.Read key) k = k ≡ kind.Calling (op.Read key)
WorkAgrees (work.Write key value) k = k ≡ kind.Calling (op.Write key value)
WorkAgrees (work.Fix deps) k = ⊥

-- a register call's rounds: its works are done, and nothing that its copy depends on is left
pub record CallAgrees (w : Owner) (r : RegSession) : Type 0 where
  pub of_kind : WorkAgrees r.work w.kind
  pub done : w.works.left ≡ []
  pub settled : w.works.copy.deps ≡ []

-- the phases of a round of dependencies
abbrev pub FixPhase : RegPhase → Type 0
FixPhase phase.Fixing = ⊤
FixPhase (phase.Done ends.Fixed) = ⊤
FixPhase (phase.Done (ends.Read cell dep)) = ⊥
FixPhase (phase.Done (ends.Written stamp)) = ⊥
FixPhase phase.Asking = ⊥
FixPhase phase.Stamping = ⊥
FixPhase (phase.Storing stamp) = ⊥

-- a round of dependencies: it stores those of the copy on the registers of a service, which is that of the
-- first of the owner's works, or the call's own where its works are done
pub record FixAgrees (w : Owner) (r : RegSession) : Type 0 where
  pub stores : r.work ≡ work.Fix (deps_of r.service w.works.copy.deps)
  pub first : (id : ServiceId) (x : FenceWork) (rest : List (ServiceId × FenceWork)) → w.works.left ≡ (id, x) ∷ rest → r.service ≡ id
  pub own : (x : Op) → w.works.left ≡ [] → w.kind ≡ kind.Calling x → r.service ≡ service_of x
  pub in_phase : FixPhase r.phase

-- a transaction's session, and a snapshot's
pub record TxnAgrees (w : Owner) : Type 0 where
  pub reads : List Key
  pub guard : Option (Compare ℕ)
  pub writes : List (Key × Expr ℕ)
  pub of_kind : w.kind ≡ kind.Calling (op.Txn reads guard writes)

pub record SnapAgrees (w : Owner) : Type 0 where
  pub keys : List Key
  pub of_kind : w.kind ≡ kind.Calling (op.Snap keys)

abbrev pub Agrees : Owner → Session → Type 0
Agrees w session.Idle = ⊤
Agrees w (session.Fixing r) = FixAgrees w r
Agrees w (session.Register r) = CallAgrees w r
Agrees w (session.Transaction t) = TxnAgrees w
Agrees w (session.Snapshot t) = SnapAgrees w
Agrees w (session.Settling attempt shards) = w.kind ≡ kind.Stubbing (Some (attempt, shards))

-- what each owner has under way is of what it does
pub record AllAgree (s : State) : Type 0 where
  pub each : (o : ℕ) → Agrees (owner_at s o) (owner_at s o).session
