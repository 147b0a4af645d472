-- Dependencies stay in their order.
use Rattle.std.proofs.Common.{◌≡◌, ℕ, suc, ◌<◌, Option, Some, None, List, [], ◌∷◌, All, arith, refl, sym, subst}
use Rattle.std.proofs.lemmas.Grind.{common_steps}
use Rattle.std.proofs.lemmas.List.Elements.{All-cons, All-nil}
use Rattle.std.proofs.lemmas.List.Kept.{AllPairs-cons, AllPairs-filter}
use Rattle.rss_names.specs.declared.service.ServiceId.{ServiceId}
use Rattle.rss_names.specs.declared.service.ServiceId.TheVariants.{Txn, Reg}
use Rattle.causal_context.specs.declared.dep.Dep.{Dep}
use Rattle.causal_context.specs.Deps.{AreAscending, greater_dep, put_dep, deps_joined, deps_fenced, given_dep}
use Rattle.causal_context.proofs.Ordered.{AllAbove, Rising, rising_joined, put, joined}

-- the register index of a dependency
unfoldable pub index_of : Dep → ℕ
index_of d = d.key.index

-- of two dependencies on one register the one kept is on it
pub greater_kept : (a b : Dep) → index_of a ≡ index_of b → index_of (greater_dep a b) ≡ index_of a
unfolding index_of
greater_kept a b h = grind (arith, common_steps, h)

-- dependencies are put and joined as lists by ascending place are
pub put_dep_is : (dep : Dep) (deps : List Dep) → put_dep dep deps ≡ put index_of greater_dep dep deps
unfolding index_of
put_dep_is dep [] = refl
put_dep_is dep (d ∷ deps) = let r = put_dep_is dep deps in grind (arith, common_steps, r)

pub deps_joined_is : (deps others : List Dep) → deps_joined deps others ≡ joined index_of greater_dep deps others
deps_joined_is deps [] = refl
deps_joined_is deps (d ∷ others) = let p = put_dep_is d deps in let r = deps_joined_is (put_dep d deps) others in grind (arith, common_steps, p, r)

-- ascending, as each after the others
above_all : (n : ℕ) (deps : List Dep) → All (λ d. n < d.key.index) deps → AllAbove index_of n deps
unfolding index_of
above_all n [] h = tt
above_all n (d ∷ deps) h = (h 0 d (omega arith), above_all n deps (λ k e l. h (suc k) e (omega (arith, l))))

all_above : (n : ℕ) (deps : List Dep) → AllAbove index_of n deps → All (λ d. n < d.key.index) deps
unfolding index_of
all_above n [] h = All-nil (λ (d : Dep). n < d.key.index)
all_above n (d ∷ deps) h = All-cons (λ (d : Dep). n < d.key.index) d deps h.0 (all_above n deps h.1)

pub rising : (deps : List Dep) → AreAscending deps → Rising index_of deps
unfolding index_of
rising [] h = tt
rising (d ∷ deps) h = (
  above_all d.key.index deps (λ k e l. h.in_order 0 (suc k) e (omega arith) (omega (arith, l))),
  rising deps (record { in_order = λ i j e l m. h.in_order (suc i) (suc j) e (omega (arith, l)) (omega (arith, m)) }),
)

pub from_rising : (deps : List Dep) → Rising index_of deps → AreAscending deps
unfolding index_of
from_rising [] h = record { in_order = λ i j e l m. absurd (omega (arith, m)) }
from_rising (d ∷ deps) h = record { in_order = AllPairs-cons (λ (a b : Dep). a.key.index < b.key.index) d deps (all_above d.key.index deps h.0) (from_rising deps h.1).in_order }

-- joined dependencies are ascending
pub ascending_joined : (deps others : List Dep) → AreAscending deps → AreAscending (deps_joined deps others)
ascending_joined deps others h = from_rising _ (subst (Rising index_of) (sym (deps_joined_is deps others)) (rising_joined index_of greater_dep greater_kept deps others (rising deps h)))

-- dependencies that are left when a service was fenced are ascending
pub ascending_fenced : (id : ServiceId) (deps : List Dep) → AreAscending deps → AreAscending (deps_fenced id deps)
ascending_fenced (Txn n) deps h = h
ascending_fenced (Reg n) deps h = record { in_order = AllPairs-filter (λ (a b : Dep). a.key.index < b.key.index) _ deps h.in_order }

-- one dependency, or none, is ascending
pub ascending_given : (dep : Option Dep) → AreAscending (given_dep dep)
ascending_given None = record { in_order = λ i j e l m. absurd (omega (arith, m)) }
ascending_given (Some d) = record { in_order = λ i j e l m. absurd (omega (arith, l, m)) }

-- what keeps dependencies ascending
pub ruleset ascending = (ascending_joined, ascending_fenced, ascending_given)
