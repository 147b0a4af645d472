-- Fences: what each service used last still owes before another is called, and the works of an owner
-- (a call, a fence statement or a stub) that settle it, one after another, on a copy of its stage's context.
use Rattle.std.specs.Prelude.{ℕ, ◌+◌, Bool, true, false, ◌||◌, ◌==◌, not, List, [], ◌∷◌, length, map, Option, Some, None, if◌then◌else◌}
use Rattle.std.specs.List.{list_any, filter}
use Rattle.rss_names.specs.declared.service.ServiceId.{ServiceId}
use Rattle.rss_names.specs.declared.service.ServiceId.TheVariants.{Txn, Reg}
use Rattle.rss_names.specs.Services.{same_service}
use Rattle.causal_context.specs.declared.dep.Dep.{Dep}
use Rattle.causal_context.specs.LastView.{LastView}
use Rattle.causal_context.specs.LeastTimes.{least_of}
use Rattle.causal_context.specs.Deps.{deps_of}
use Rattle.causal_context.specs.Seen.{Seen}
use Rattle.rss_tables.specs.declared.fences.FenceWork.{FenceWork}
use Rattle.rss_tables.specs.declared.fences.FenceWork.TheVariants.{Nothing, Past, Fix}

-- works of fences, each with its service, and whether the owner's own service is entered after them
pub record Plan : Type 0 where
  pub fences : List (ServiceId × FenceWork)
  pub enter : Bool

-- nothing is owed where no dependency is left
abbrev pub fix_unless_none : List Dep → FenceWork
fix_unless_none [] = Nothing
fix_unless_none (dep ∷ deps) = Fix

-- what the fence of a service comes to: waiting for the least time of a transaction service, storing
-- the dependencies on a register service's registers
abbrev pub fence_of : Seen → ServiceId → FenceWork
fence_of seen (Txn number) = Past (least_of seen.least (Txn number))
fence_of seen (Reg number) = fix_unless_none (deps_of (Reg number) seen.deps)

-- the fences of services, in order
abbrev pub fences_of : Seen → List ServiceId → List (ServiceId × FenceWork)
fences_of seen services = map (λ id. (id, fence_of seen id)) services

-- the services other than this one
abbrev pub others_than : ServiceId → List ServiceId → List ServiceId
others_than id services = filter (λ other. not (same_service id other)) services

-- the plan of a call at a service: fences of all other services used last; the service is entered
-- where anything but itself was used last
abbrev pub plan_for : Seen → ServiceId → Plan
plan_for seen id = record {
  fences = fences_of seen (others_than id seen.last.services);
  enter = seen.last.outside || not (length (others_than id seen.last.services) == 0);
}

-- the plan of a fence statement or a stub: fences of all services used last
abbrev pub plan_all : Seen → Plan
plan_all seen = record { fences = fences_of seen seen.last.services; enter = false }

-- the works of an owner: its copy of the context, the works left, of which the first may be under
-- way, whether it still is to enter its own service, and the time that it waits for, if so
pub record Works : Type 0 where
  pub copy : Seen
  pub left : List (ServiceId × FenceWork)
  pub enter : Bool
  pub wait : Option ℕ

-- works that nothing is planned for yet
abbrev pub no_works : Seen → Works
no_works seen = record { copy = seen; left = []; enter = false; wait = None }

-- works with a plan
abbrev pub planned : Seen → Plan → Works
planned seen plan = record { copy = seen; left = plan.fences; enter = plan.enter; wait = None }
