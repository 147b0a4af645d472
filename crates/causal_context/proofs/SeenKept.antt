-- What calls, fences and entries make of a context is one.
use Rattle.std.proofs.Common.{◌≡◌, ℕ, ◌≤◌, max, false, Option, List, [], ◌∷◌, arith}
use Rattle.std.proofs.lemmas.List.Elements.{All-cons, All-nil, All-filter}
use Rattle.std.proofs.lemmas.List.Kept.{AllPairs-filter}
use Rattle.rss_names.specs.declared.service.ServiceId.{ServiceId}
use Rattle.rss_names.specs.declared.service.ServiceId.TheVariants.{Txn, Reg}
use Rattle.causal_context.specs.declared.dep.Dep.{Dep}
use Rattle.causal_context.specs.Services.{IsService, StandsBefore, AreServices, has_service, without_service}
use Rattle.causal_context.specs.LeastTimes.{AreLeastTimes, least_of, least_set}
use Rattle.causal_context.specs.Deps.{AreAscending, deps_of}
use Rattle.causal_context.specs.Seen.{Seen, context_joined, after_txn, after_read, after_write, after_fence, fenced_outside, entered, deps_cleared}
use Rattle.causal_context.specs.Forms.{IsSeen}
use Rattle.causal_context.proofs.Ascending.{ascending_fenced, ascending_given}
use Rattle.causal_context.proofs.JoinsOfTimes.{least_times_put}
use Rattle.causal_context.proofs.Looked.{least_raised_holds, least_raised_reaches, least_joined_first, least_joined_second, has_without, none_elsewhere}

one_service : (id : ServiceId) → IsService id → AreServices (id ∷ [])
one_service id h = record { in_range = All-cons IsService id [] h (All-nil IsService); in_order = λ i j d l m. absurd (omega (arith, l, m)) }

no_service : AreServices []
no_service = record { in_range = All-nil IsService; in_order = λ i j d l m. absurd (omega (arith, m)) }

no_dep : AreAscending []
no_dep = record { in_order = λ i j d l m. absurd (omega (arith, m)) }

fewer_services : (id : ServiceId) (services : List ServiceId) → AreServices services → AreServices (without_service id services)
fewer_services id services h = record { in_range = All-filter _ IsService services h.in_range; in_order = AllPairs-filter StandsBefore _ services h.in_order }

least_times_set : (id : ServiceId) (time : ℕ) (entries : List (ServiceId × ℕ)) → IsService id → AreLeastTimes entries → AreLeastTimes (least_set id time entries)
least_times_set (Txn n) time entries s h = least_times_put n time entries s h
least_times_set (Reg n) time entries s h = h

pub txn_seen : (c : Seen) (id : ServiceId) (time : ℕ) → IsSeen c → IsService id → IsSeen (after_txn c id time)
txn_seen c id time h s = record { least = least_times_set id time c.least s h.least; deps = h.deps; last = one_service id s }

pub read_seen : (c : Seen) (id : ServiceId) (dep : Option Dep) → IsSeen c → IsService id → IsSeen (after_read c id dep)
read_seen c id dep h s = record { least = h.least; deps = ascending_given dep; last = one_service id s }

pub write_seen : (c : Seen) (id : ServiceId) → IsSeen c → IsService id → IsSeen (after_write c id)
write_seen c id h s = record { least = h.least; deps = no_dep; last = one_service id s }

pub fence_seen : (c : Seen) (id : ServiceId) → IsSeen c → IsSeen (after_fence c id)
fence_seen c id h = record { least = h.least; deps = ascending_fenced id c.deps h.deps; last = fewer_services id c.last.services h.last }

pub outside_seen : (c : Seen) → IsSeen c → IsSeen (fenced_outside c)
outside_seen c h = record { least = h.least; deps = no_dep; last = no_service }

pub entered_seen : (c : Seen) (id : ServiceId) (latest : ℕ) → IsSeen c → IsService id → IsSeen (entered c id latest)
entered_seen c id latest h s = record { least = least_times_set id (max (least_of c.least id) latest) c.least s h.least; deps = h.deps; last = one_service id s }

pub cleared_seen : (c : Seen) → IsSeen c → IsSeen (deps_cleared c)
cleared_seen c h = record { least = h.least; deps = no_dep; last = h.last }

pub fence_gone : (c : Seen) (id : ServiceId) → has_service (after_fence c id).last.services id ≡ false
fence_gone c id = has_without id c.last.services

pub fence_clears : (c : Seen) (n : ℕ) → deps_of (Reg n) (after_fence c (Reg n)).deps ≡ []
fence_clears c n = none_elsewhere (Reg n) c.deps

pub entry_reaches : (c : Seen) (n latest : ℕ) → latest ≤ least_of (entered c (Txn n) latest).least (Txn n)
entry_reaches c n latest = least_raised_reaches n latest c.least

pub entry_holds : (c : Seen) (id : ServiceId) (latest : ℕ) (other : ServiceId) → least_of c.least other ≤ least_of (entered c id latest).least other
entry_holds c id latest other = least_raised_holds id latest c.least other

pub join_holds_first : (a b : Seen) (id : ServiceId) → least_of a.least id ≤ least_of (context_joined a b).least id
join_holds_first a b id = least_joined_first a.least b.least id

pub join_holds_second : (a b : Seen) (n : ℕ) → least_of b.least (Txn n) ≤ least_of (context_joined a b).least (Txn n)
join_holds_second a b n = least_joined_second a.least b.least n
