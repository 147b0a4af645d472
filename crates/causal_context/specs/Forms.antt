-- What a context can say.
use Rattle.std.specs.Prelude.{◌≡◌, List, All}
use Rattle.causal_context.specs.declared.dep.Dep.{Dep}
use Rattle.causal_context.specs.Services.{AreServices}
use Rattle.causal_context.specs.LeastTimes.{AreLeastTimes}
use Rattle.causal_context.specs.Deps.{AreAscending}
use Rattle.causal_context.specs.Seen.{Seen}

-- least times and services stand in the order of services, dependencies by ascending register index
pub record IsSeen (c : Seen) : Type 0 where
  pub least : AreLeastTimes c.least
  pub deps : AreAscending c.deps
  pub last : AreServices c.last.services

-- of two dependencies on one register that have one stamp, each is the other
abbrev pub StampsAgree : List Dep → List Dep → Type 0
StampsAgree deps others = All (λ a. All (λ b. a.key.index ≡ b.key.index → a.stamp ≡ b.stamp → a ≡ b) others) deps
