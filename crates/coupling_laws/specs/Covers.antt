-- What a context covers of the calls behind it.
use Rattle.std.specs.Prelude.{◌≡◌, ℕ, ◌≤◌, ◌⊎◌, Bool, true, false, ◌&&◌, ◌==◌, List, [], All}
use Rattle.std.specs.List.{list_any}
use Rattle.rss_names.specs.declared.service.ServiceId.{ServiceId}
use Rattle.rss_names.specs.declared.service.ServiceId.TheVariants.{Txn, Reg}
use Rattle.rss_names.specs.Services.{same_service}
use Rattle.carstamps.specs.Stamp.{stamp_le}
use Rattle.causal_context.specs.declared.dep.Dep.{Dep}
use Rattle.causal_context.specs.Services.{has_service}
use Rattle.causal_context.specs.LastView.{nothing_last, last_alone}
use Rattle.causal_context.specs.LeastTimes.{least_of}
use Rattle.causal_context.specs.Deps.{deps_of}
use Rattle.causal_context.specs.Seen.{Seen, nothing_seen}
use Rattle.causal_context.specs.Forms.{IsSeen}
use Rattle.coupling_laws.specs.Calls.{EndedCall, View}

-- a dependency is on the call's register, and its stamp is not smaller than the call's
abbrev pub holds_call : EndedCall → Dep → Bool
holds_call call d = d.key.index == call.register && stamp_le call.stamp d.stamp

-- some dependency is
abbrev pub holds : List Dep → EndedCall → Bool
holds deps call = list_any (holds_call call) deps

-- a dependency is on a value that was written so, and names the service of its register
abbrev pub IsValid : View → Dep → Type 0
IsValid v d = (v.sound d ≡ true) × (d.key.service ≡ v.home d.key.index)

-- the context covers the calls behind it
pub record Covers (v : View) (behind : ℕ → Bool) (c : Seen) : Type 0 where
  -- they have ended
  pub ended : (a : ℕ) → behind a ≡ true → v.ended a ≡ true
  -- the time of each that is of a transaction service is at most the least time of that service
  pub least : (a n : ℕ) → behind a ≡ true → (v.call a).service ≡ Txn n → (v.call a).time ≤ least_of c.least (Txn n)
  -- the step of each that is of a register service has come, or a dependency on its register has no smaller stamp
  pub dep : (a n : ℕ) → behind a ≡ true → (v.call a).service ≡ Reg n → (v.come a ≡ true) ⊎ (holds c.deps (v.call a) ≡ true)
  -- the step of each that is of a service not used last has come
  pub out : (a : ℕ) → behind a ≡ true → has_service c.last.services (v.call a).service ≡ false → v.come a ≡ true
  -- no dependency is on a register of a service not used last
  pub out_deps : (n : ℕ) → has_service c.last.services (Reg n) ≡ false → deps_of (Reg n) c.deps ≡ []
  -- where one transaction service alone was used last, each call of another service comes before its least time
  pub alone : (a n : ℕ) → behind a ≡ true → c.last ≡ last_alone (Txn n) → same_service (v.call a).service (Txn n) ≡ false → v.before a (least_of c.least (Txn n)) ≡ true
  -- where nothing was used last, nothing was seen and no call is behind
  pub empty : c.last ≡ nothing_last → (c ≡ nothing_seen) × ((a : ℕ) → behind a ≡ false)
  -- dependencies are on values that were written so
  pub valid : All (IsValid v) c.deps
  -- least times and services stand in the order of services, dependencies by ascending register index
  pub orders : IsSeen c

-- one service alone was used last, or nothing was seen
abbrev pub IsAt : Seen → ServiceId → Type 0
IsAt c id = (c.last ≡ last_alone id) ⊎ (c ≡ nothing_seen)

-- of the services none but this one was used last
abbrev pub NoOther : Seen → ServiceId → Type 0
NoOther c id = (other : ServiceId) → has_service c.last.services other ≡ true → other ≡ id
