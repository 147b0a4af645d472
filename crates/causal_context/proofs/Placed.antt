-- Dependencies put in their order.
use Rattle.std.proofs.Common.{◌≡◌, ℕ, suc, ◌<◌, List, ◌∷◌, ◌++◌, length, set, take, drop, drop-cons, get_or, arith}
use Rattle.std.proofs.lemmas.Grind.{common_steps}
use Rattle.std.proofs.lemmas.List.{set_split}
use Rattle.std.proofs.lemmas.Bool.Decides.{nat_tests}
use Rattle.causal_context.specs.declared.dep.Dep.{Dep}
use Rattle.causal_context.specs.Deps.{greater_dep, put_dep}

-- a dependency before the first of two on one register
pub put_on : (dep first : Dep) (deps : List Dep) → dep.key.index ≡ first.key.index → put_dep dep (first ∷ deps) ≡ greater_dep first dep ∷ deps
put_on dep first deps e = grind (arith, common_steps, nat_tests, e)

-- a dependency takes the place of that on its register
pub put_same : (deps : List Dep) (dep d e : Dep) (i : ℕ) → i < length deps → put_dep dep deps ≡ take i deps ++ put_dep dep (drop i deps) → dep.key.index ≡ (get_or deps i e).key.index
    → put_dep dep deps ≡ set deps i (greater_dep (get_or deps i d) dep)
put_same deps dep d e i l h q =
    let c = drop-cons deps i d l in
    let s = set_split deps i (greater_dep (get_or deps i d) dep) l in
    let p = put_on dep (get_or deps i d) (drop (suc i) deps) (grind (arith, common_steps, q, l)) in
    grind (arith, common_steps, c, s, p, h)
