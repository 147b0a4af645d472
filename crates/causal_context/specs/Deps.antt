-- Dependencies by ascending register index.
use Rattle.std.specs.Prelude.{◌<◌, not, nat_lt, ◌==◌, if◌then◌else◌, Option, Some, None, List, [], ◌∷◌, AllPairs}
use Rattle.std.specs.List.{filter}
use Rattle.rss_names.specs.declared.service.ServiceId.{ServiceId}
use Rattle.rss_names.specs.declared.service.ServiceId.TheVariants.{Txn, Reg}
use Rattle.rss_names.specs.Services.{same_service}
use Rattle.carstamps.specs.Stamp.{stamp_lt}
use Rattle.causal_context.specs.declared.dep.Dep.{Dep}

-- dependencies by ascending register index, so with distinct keys
pub record AreAscending (deps : List Dep) : Type 0 where
  pub in_order : AllPairs (λ a b. a.key.index < b.key.index) deps

-- the dependency of the greater stamp, the first one at equal stamps
abbrev pub greater_dep : Dep → Dep → Dep
greater_dep a b = if stamp_lt a.stamp b.stamp then b else a

-- a dependency put among others in their order; of two on one register the one of the greater stamp stays
abbrev pub put_dep : Dep → List Dep → List Dep
put_dep new [] = new ∷ []
put_dep new (dep ∷ deps) =
    if nat_lt new.key.index dep.key.index then new ∷ dep ∷ deps
    else if new.key.index == dep.key.index then greater_dep dep new ∷ deps
    else dep ∷ put_dep new deps

-- the dependencies of two lists in their order, for each register the one of the greatest stamp
abbrev pub deps_joined : List Dep → List Dep → List Dep
deps_joined deps [] = deps
deps_joined deps (dep ∷ others) = deps_joined (put_dep dep deps) others

-- the dependencies on registers of a service
abbrev pub deps_of : ServiceId → List Dep → List Dep
deps_of id deps = filter (λ dep. same_service id dep.key.service) deps

-- the dependencies on registers of other services
abbrev pub deps_elsewhere : ServiceId → List Dep → List Dep
deps_elsewhere id deps = filter (λ dep. not (same_service id dep.key.service)) deps

-- the dependencies that are left when a service was fenced: those on its registers are gone
abbrev pub deps_fenced : ServiceId → List Dep → List Dep
deps_fenced (Txn number) deps = deps
deps_fenced (Reg number) deps = deps_elsewhere (Reg number) deps

-- the dependency given, or none
abbrev pub given_dep : Option Dep → List Dep
given_dep None = []
given_dep (Some dep) = dep ∷ []
