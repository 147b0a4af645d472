-- The works of an owner over one step: those that it had left before it, or that it plans in it, and how many of
-- them are done behind it.
use Rattle.std.specs.Prelude.{◌≡◌, ℕ, ◌<◌, ◌≤◌, Bool, true, false, List, [], drop, length, get_or}
use Rattle.rss_names.specs.declared.service.ServiceId.{ServiceId}
use Rattle.rss_names.specs.declared.service.ServiceId.TheVariants.{Txn, Reg}
use Rattle.causal_context.specs.LeastTimes.{least_of}
use Rattle.causal_context.specs.Seen.{Seen}
use Rattle.rss_model.specs.declared.op.Op.{Op}
use Rattle.rss_tables.specs.Works.{plan_for, plan_all}
use Rattle.rss_tables.specs.declared.fences.FenceWork.{FenceWork}
use Rattle.rss_tables.specs.declared.fences.FenceWork.TheVariants.{Nothing, Past}
use Rattle.rss_machine.specs.Session.{service_of}
use Rattle.rss_machine.specs.State.{State, Owner, owner_at, stage_at}
use Rattle.rss_machine.specs.Times.{step_of_time}
use Rattle.rss_machine.specs.declared.session.OwnerKind.TheVariants as kind
use Rattle.world_laws.specs.Calls.{is_stub}
use Rattle.world_laws.specs.Planned.{has_planned, has_work}

-- whether an owner's works are planned
abbrev pub is_planned : Owner → Bool
is_planned w = has_planned w.kind w.started w.session

-- no work, past the end of a list of works
abbrev pub no_work : ServiceId × FenceWork
no_work = (Reg 0, Nothing)

-- the context and the works with which an owner, that is this one behind a step, goes into the step: those left of
-- works that were planned before, or the plan that it makes in the step, of its stage's context where it begins, and
-- of its own copy where it is a stub; or none, where nothing is planned yet. A stub that begins in the step has
-- the least times of its copy
pub data Before (u : State) (o : ℕ) (w : Owner) : Seen → List (ServiceId × FenceWork) → Type 0 where
  had : o < length u.owners → is_planned (owner_at u o) ≡ true → Before u o w (owner_at u o).works.copy (owner_at u o).works.left
  call_begins : (x : Op) → length u.owners ≤ o → w.kind ≡ kind.Calling x → Before u o w (stage_at u w.stage).context (plan_for (stage_at u w.stage).context (service_of x)).fences
  fence_begins : length u.owners ≤ o → w.kind ≡ kind.Fencing → Before u o w (stage_at u w.stage).context (plan_all (stage_at u w.stage).context).fences
  stub_plans : o < length u.owners → is_planned (owner_at u o) ≡ false → is_stub w.kind ≡ true → Before u o w (owner_at u o).works.copy (plan_all (owner_at u o).works.copy).fences
  stub_begins : (seen : Seen) → length u.owners ≤ o → is_stub w.kind ≡ true → w.works.copy.least ≡ seen.least → Before u o w seen (plan_all seen).fences
  plans_none : is_planned w ≡ false → Before u o w w.works.copy []

-- what became of an owner's works in a step from one state to another: some of the first are done, and the others are
-- left. The time of each that is done and waited for a time has come: it is the least time of its service, the
-- true moment is above it, and its step is among those made
pub record FencesEnd (u v : State) (o : ℕ) : Type 0 where
  pub seen : Seen
  pub works : List (ServiceId × FenceWork)
  pub before : Before u o (owner_at v o) seen works
  pub gone : ℕ
  pub left : (owner_at v o).works.left ≡ drop gone works
  pub come : (k time : ℕ) (id : ServiceId) → k < gone → get_or works k no_work ≡ (id, Past time) → (time ≡ least_of seen.least id) × (time < v.moment) × (step_of_time v time ≤ v.steps)
  pub over : (n : ℕ) → has_work works (Txn n) ≡ true → has_work (owner_at v o).works.left (Txn n) ≡ false → (least_of seen.least (Txn n) < v.moment) × (step_of_time v (least_of seen.least (Txn n)) ≤ v.steps)
