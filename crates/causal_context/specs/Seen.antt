-- What a stage has seen of each service, and what calls, fences, entries and joins make of it.
use Rattle.std.specs.Prelude.{ℕ, Option, List, []}
use Rattle.rss_names.specs.declared.service.ServiceId.{ServiceId}
use Rattle.causal_context.specs.declared.dep.Dep.{Dep}
use Rattle.causal_context.specs.LastView.{LastView, nothing_last, last_alone, outside_alone, last_joined, last_fenced}
use Rattle.causal_context.specs.LeastTimes.{least_set, least_raised, least_joined}
use Rattle.causal_context.specs.Deps.{deps_joined, deps_fenced, given_dep}

-- the least times of transaction services in the order of services, the dependencies by ascending register index, and the services used last
pub record Seen : Type 0 where
  pub least : List (ServiceId × ℕ)
  pub deps : List Dep
  pub last : LastView

-- nothing was seen yet
abbrev pub nothing_seen : Seen
nothing_seen = record { least = []; deps = []; last = nothing_last }

-- what two stages have seen: the greatest least times, for each register the dependency of the greatest stamp, and what one of them used last
abbrev pub context_joined : Seen → Seen → Seen
context_joined a b = record { least = least_joined a.least b.least; deps = deps_joined a.deps b.deps; last = last_joined a.last b.last }

-- a call of a transaction service ended at this time
abbrev pub after_txn : Seen → ServiceId → ℕ → Seen
after_txn c id time = record { least = least_set id time c.least; deps = c.deps; last = last_alone id }

-- a read ended, and with it the value read may have become a dependency
abbrev pub after_read : Seen → ServiceId → Option Dep → Seen
after_read c id dep = record { least = c.least; deps = given_dep dep; last = last_alone id }

-- a write ended
abbrev pub after_write : Seen → ServiceId → Seen
after_write c id = record { least = c.least; deps = []; last = last_alone id }

-- the fence of a service ended
abbrev pub after_fence : Seen → ServiceId → Seen
after_fence c id = record { least = c.least; deps = deps_fenced id c.deps; last = last_fenced id c.last }

-- every service was fenced
abbrev pub fenced_outside : Seen → Seen
fenced_outside c = record { least = c.least; deps = []; last = outside_alone }

-- a service was entered, at a moment whose latest reading this is
abbrev pub entered : Seen → ServiceId → ℕ → Seen
entered c id latest = record { least = least_raised id latest c.least; deps = c.deps; last = last_alone id }

-- each dependency was stored at a majority
abbrev pub deps_cleared : Seen → Seen
deps_cleared c = record { least = c.least; deps = []; last = c.last }
